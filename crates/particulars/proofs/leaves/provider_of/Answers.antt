-- `particulars::leaves::provider_of` meets its contract, by its definition. Assumes nothing.
use Rattle.particulars.proofs.leaves.provider_of.Goals as goal
use Rattle.particulars.specs.Leaves.{provider_of}
use mathlib.Core.Path.{sym, ◌∙◌}

pub returns-then-not-is_string : goal.returns-then-not-is_string
unfolding provider_of
returns-then-not-is_string c = rw (sym c.is_string.ensures ∙ c.if-not-is_string.true)

pub returns : goal.returns
unfolding provider_of
returns c = rw (sym c.is_string.ensures ∙ c.if-not-is_string.false, c.provider_spelled.ensures, c.own_spelling.ensures)
