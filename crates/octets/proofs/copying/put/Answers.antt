-- `octets::copying::put` meets its contract. The part of the buffer that is written over is as long as what is written. Assumes nothing.
use Prim.Native.Nat.{◌+◌, ◌-◌}
use Rattle.octets.proofs.Chain.{splice_mid}
use Rattle.octets.proofs.copying.put.Goals as goal
use lib.ListN.{length}
use mathlib.Core.Path.{◌≡◌, refl}
use native.Mathlib.Omega.{arith}

pub returns : goal.returns
returns c =
    let x = c.args in
    let n : x.at + length x.part.now - x.at ≡ length x.part.now = omega arith in
    (refl, rw (n, c.copy_from_slice.ensures.after) (splice_mid x.out.now x.at x.part.now))
