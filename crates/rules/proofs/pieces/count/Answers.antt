use Rattle.octets.specs.Class.{among}
use Rattle.rules.proofs.PieceLaws.{count-more, count-over}
use Rattle.rules.proofs.pieces.count.Goals as goal
use Rattle.rules.specs.Pieces.{decimal_at}
use Rattle.std.proofs.Common.{ap, arith, refl, ◌≡◌, ◌<◌, ◌∙◌}
use Rattle.std.proofs.lemmas.List.{get_or-take, length-take-le}

pub loop-b-init : goal.loop-b-init
unfolding decimal_at
loop-b-init c = (omega arith, refl)

pub returns-then-hi-v : goal.returns-then-hi-v
returns-then-hi-v c =
    let x = c.args in
    let s = x.s.now in
    let h : c.loop-b.b-index < x.n = omega (arith, length-take-le x.n s) in
    rw (count-over s c.loop-b.b-index c.loop-b.v _ c.loop-b.invariant.1 x.n x.hi h (rw (get_or-take x.n s _ 0 h) at c.worth.ensures.0) c.if-hi-v.true)

pub loop-b-preserved : goal.loop-b-preserved
loop-b-preserved c =
    let x = c.args in
    let s = x.s.now in
    let h : c.loop-b.b-index < x.n = omega (arith, length-take-le x.n s) in
    (omega arith, count-more s c.loop-b.b-index c.loop-b.v _ c.loop-b.invariant.1 (rw (get_or-take x.n s _ 0 h) at c.worth.ensures.0))

pub returns : goal.returns
unfolding among
returns c =
    let x = c.args in
    let e : c.loop-b.b-index ≡ x.n = omega (arith, length-take-le x.n x.s.now) in
    let v : c.loop-b.v ≡ decimal_at x.n x.s.now 0 = c.loop-b.invariant.1 ∙ ap (λ k. decimal_at k x.s.now 0) e in
    grind arith
