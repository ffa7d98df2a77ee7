-- One law for each way out. Assumes nothing.
use Rattle.escapes.proofs.EscapeLaws.{escape-last-at, escape-short-at, escape-unit-at, escape-none-at, unit-room}
use Rattle.escapes.proofs.reading.escape_at.Goals as goal
use mathlib.Core.Path.{refl, ◌∙◌}
use native.Mathlib.Omega.{arith}

pub returns-then-s-at-lt2 : goal.returns-then-s-at-lt2
returns-then-s-at-lt2 c = let x = c.args in escape-last-at x.s.now x.at c.if-s-at-lt2.true

pub returns-in-Some : goal.returns-in-Some
returns-in-Some c = let x = c.args in let p = c.in-Some.ensures in escape-short-at x.s.now x.at _ p.0 (omega arith)

pub unit_at-requires-in-Some-unit_at : goal.unit_at-requires-in-Some-unit_at
unit_at-requires-in-Some-unit_at c =
    let x = c.args in let p = c.in-Some-unit_at.ensures in unit-room x.s.now x.at _ p.0 (omega arith) (omega arith)

pub returns-in-Some-unit_at : goal.returns-in-Some-unit_at
returns-in-Some-unit_at c =
    let x = c.args in
    let p = c.in-Some-unit_at.ensures in
    c.joined.ensures _ c.unit_at-in-Some-unit_at.ensures
    ∙ escape-unit-at x.s.now x.at _ _ _ refl c.in_default.ensures p.0 (omega arith) refl

pub returns : goal.returns
returns c =
    let x = c.args in
    escape-none-at x.s.now x.at _ _ refl c.in_default.ensures refl c.in_default-unit_at.ensures
