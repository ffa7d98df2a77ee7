-- One law for each way out. Assumes nothing.
use Rattle.escapes.proofs.EscapeLaws.{unit-few-at, unit-other-at, unit-no-u-at, unit-is-at, unit-broken, quad-a, quad-b, quad-c, quad-d, quad_is}
use Rattle.escapes.proofs.reading.unit_at.Goals as goal
use Prim.Native.Nat.{◌+◌, ◌*◌}
use Rattle.escapes.specs.Rfc7159.{unit}
use lib.ListN.{drop}
use mathlib.Core.Path.{◌≡◌, ◌∙◌}
use native.Mathlib.Omega.{arith}

pub returns-then-s-at-lt6 : goal.returns-then-s-at-lt6
returns-then-s-at-lt6 c = let x = c.args in let e = unit-few-at x.s.now x.at c.if-s-at-lt6.true in omega arith

pub returns-then-s-at-ne92 : goal.returns-then-s-at-ne92
returns-then-s-at-ne92 c = let x = c.args in let e = unit-other-at x.s.now x.at c.if-s-at-ne92.true in omega arith

pub returns-then-s-at-ne117 : goal.returns-then-s-at-ne117
returns-then-s-at-ne117 c = let x = c.args in let e = unit-no-u-at x.s.now x.at c.if-s-at-ne92.false c.if-s-at-ne117.true in omega arith

pub returns-in_err-a : goal.returns-in_err-a
returns-in_err-a c = rw c.from_residual.ensures (unit-broken c.args.s.now c.args.at c.if-s-at-ne92.false c.if-s-at-ne117.false (quad-a _ _ _ _ c.in_err-a.ensures))

pub returns-in_err-b : goal.returns-in_err-b
returns-in_err-b c = rw c.from_residual-in_err-b.ensures
    (unit-broken c.args.s.now c.args.at c.if-s-at-ne92.false c.if-s-at-ne117.false (quad-b _ _ _ _ c.in_ok-a.ensures.1 c.in_err-b.ensures))

pub returns-in_err-c : goal.returns-in_err-c
returns-in_err-c c = rw c.from_residual-in_err-c.ensures
    (unit-broken c.args.s.now c.args.at c.if-s-at-ne92.false c.if-s-at-ne117.false (quad-c _ _ _ _ c.in_ok-a.ensures.1 c.in_ok-b.ensures.1 c.in_err-c.ensures))

pub returns-in_err-d : goal.returns-in_err-d
returns-in_err-d c = rw c.from_residual-in_err-d.ensures
    (unit-broken c.args.s.now c.args.at c.if-s-at-ne92.false c.if-s-at-ne117.false (quad-d _ _ _ _ c.in_ok-a.ensures.1 c.in_ok-b.ensures.1 c.in_ok-c.ensures.1 c.in_err-d.ensures))

pub returns : goal.returns
returns c =
    let x = c.args in
    let p = c.in_ok-a.ensures in
    let q = c.in_ok-b.ensures in
    let r = c.in_ok-c.ensures in
    let t = c.in_ok-d.ensures in
    let e : c.in_ok-a.a * 4096 + c.in_ok-b.b * 256 + c.in_ok-c.c * 16 + c.in_ok-d.d ≡ unit (drop x.at x.s.now) =
    rw (p.0, q.0, r.0, t.0) (quad_is _ _ _ _ p.1 q.1 r.1 t.1 ∙ unit-is-at x.s.now x.at c.if-s-at-ne92.false c.if-s-at-ne117.false) in
    (e, omega arith)
