-- What one byte adds. Assumes nothing.
use Rattle.escapes.proofs.MeasureLaws.{byte-added}
use Rattle.escapes.proofs.PointLaws.{points-within}
use Rattle.escapes.proofs.measuring.with_byte.Goals as goal
use lib.Dec.{eqb}
use mathlib.Core.Bool.{◌||◌}
use mathlib.Core.List.{[], ◌∷◌}
use mathlib.Core.Path.{refl}
use native.Mathlib.Omega.{arith}

pub overflow_add-result-2 : goal.overflow_add-result-2
overflow_add-result-2 c =
    let x = c.args in
    omega (arith, c.begun.ensures, points-within (x.b ∷ []))

pub returns-then-m : goal.returns-then-m
returns-then-m c =
    let x = c.args in
    byte-added x.m (eqb x.b 10 || eqb x.b 13) _ (rw c.if-m.true) x.b _ c.begun.ensures refl

pub returns-else-m : goal.returns-else-m
returns-else-m c =
    let x = c.args in
    byte-added x.m _ _ (rw c.if-m.false) x.b _ c.begun.ensures c.is_break.ensures
