use Prim.Native.Nat.{◌+◌, ◌-◌}
use Rattle.utf8.proofs.PassedLaws.{passed-run, then}
use Rattle.utf8.proofs.ascii.past_32.Goals as goal
use mathlib.Core.Path.{◌≡◌}
use native.Mathlib.Omega.{arith}

pub loop-i-preserved : goal.loop-i-preserved
loop-i-preserved c =
    let x = c.args in
    let n : c.loop-i.i + 32 - c.loop-i.i ≡ 32 = omega arith in
    then x.s.now c.loop-i.invariant (passed-run x.s.now c.loop-i.i 32 (omega arith) (rw n at (c.is_ascii.ensures c.if-is_ascii.true)))
