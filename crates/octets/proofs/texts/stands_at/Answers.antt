-- `octets::texts::stands_at` meets its contract. By what the rest from there on begins with. Assumes nothing.
use Rattle.octets.proofs.TextLaws.{begins-stands}
use Rattle.octets.proofs.texts.stands_at.Goals as goal
use Rattle.octets.specs.Text.{same}
use mathlib.Core.Path.{refl, ◌∙◌}

pub returns : goal.returns
unfolding same
returns c = let x = c.args in rw c.min.ensures at c.starts_with.ensures.value ∙ begins-stands x.s.now x.w.now x.at _ refl
