-- What one number adds. Assumes nothing.
use Rattle.escapes.proofs.MeasureLaws.{code-added}
use Rattle.escapes.proofs.measuring.with_code.Goals as goal
use Rattle.escapes.proofs.measuring.with_code.Goals.{then-m, else-m}
use lib.Dec.{eqb}
use mathlib.Core.Bool.{◌||◌}
use mathlib.Core.Path.{◌∙◌, refl}
use native.Mathlib.Omega.{arith}

pub overflow_add-result : goal.overflow_add-result
overflow_add-result c = omega (arith, c.width.ensures)

pub returns-then-m-2 : goal.returns-then-m-2
returns-then-m-2 c =
    let x = c.args in code-added x.m (eqb x.c 10 || eqb x.c 13) _ (rw c.if-m-2.true) x.c _ _ _ c.width.ensures refl
    (elim c.if-m.branch [ then-m w ↦ rw w.if-m.true (w.result-is ∙ w.if-m.true) | else-m w ↦ rw w.if-m.false (w.result-is ∙ w.is_surrogate.ensures) ]) refl

pub returns-else-m-2 : goal.returns-else-m-2
returns-else-m-2 c =
    let x = c.args in code-added x.m _ _ (rw c.if-m-2.false) x.c _ _ _ c.width.ensures refl
    (elim c.if-m.branch [ then-m w ↦ rw w.if-m.true (w.result-is ∙ w.if-m.true) | else-m w ↦ rw w.if-m.false (w.result-is ∙ w.is_surrogate.ensures) ]) c.is_break.ensures
