-- By the test of its branch. Assumes nothing.
use Rattle.escapes.proofs.measuring.begun.Goals as goal
use Rattle.rules.specs.Texts.{begins_point, points}
use mathlib.Core.Path.{◌∙◌, sym}

pub returns-then-among : goal.returns-then-among
unfolding points begins_point
returns-then-among c = rw (sym c.among.ensures ∙ c.if-among.true)

pub returns-else-among : goal.returns-else-among
unfolding points begins_point
returns-else-among c = rw (sym c.among.ensures ∙ c.if-among.false)
