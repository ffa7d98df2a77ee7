-- `values::address_reach` meets its contract: the further of the two. Assumes nothing.
use Rattle.letters.proofs.values.address_reach.Goals as goal
use Rattle.letters.specs.inner.Reach.{address_reach}
use mathlib.Core.Path.{◌∙◌}

pub returns : goal.returns
unfolding address_reach
returns c = c.max.ensures ∙ rw (c.caller_reach.ensures, c.callee_reach.ensures)
