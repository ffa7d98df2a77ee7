use Prim.Native.Nat.{◌+◌, ◌-◌, ◌<◌}
use Rattle.octets.proofs.NumberLaws.{below_one, none_read, one_more, span_more, span_seven}
use Rattle.octets.proofs.numbers.number_at.Goals as goal
use lib.ListN.{drop, length, length-drop, take}
use lib.Seq.{length-take-le}
use mathlib.Core.Path.{◌≡◌}
use native.Mathlib.Omega.{arith}

pub loop-b-init : goal.loop-b-init
loop-b-init c = (none_read, below_one)

-- at most seven bytes were passed
pub overflow_mul-v : goal.overflow_mul-v
overflow_mul-v c =
    let x = c.args in
    let l : length (take (x.at + x.n - x.at) (drop x.at x.s.now)) ≡ x.at + x.n - x.at = length-take-le _ _ (rw length-drop (omega arith)) in
    omega (arith, span_seven c.loop-b.b-index c.loop-b.v (omega arith) c.loop-b.invariant.1)

pub overflow_add-v : goal.overflow_add-v
overflow_add-v c =
    let x = c.args in
    let l : length (take (x.at + x.n - x.at) (drop x.at x.s.now)) ≡ x.at + x.n - x.at = length-take-le _ _ (rw length-drop (omega arith)) in
    let b : c.from.result < 256 = omega arith in
    omega (arith, span_seven c.loop-b.b-index c.loop-b.v (omega arith) c.loop-b.invariant.1)

pub loop-b-preserved : goal.loop-b-preserved
loop-b-preserved c =
    let b : c.from.result < 256 = omega arith in
    (one_more _ c.loop-b.b-index c.loop-b.invariant.0 c.loop-b-test.true c.from.ensures, span_more c.loop-b.b-index c.loop-b.invariant.1 b)
