-- The part is the first n bytes; two digits for a byte. Assumes nothing.
use Prim.Native.Nat.{◌-◌}
use Rattle.showing.proofs.ShownLaws.{hexed-length}
use Rattle.showing.proofs.writers.put_room.Goals as goal
use lib.ListN.{take}
use lib.Seq.{length-take-le}
use mathlib.Core.Path.{◌≡◌}
use native.Mathlib.Omega.{arith}

pub returns : goal.returns
returns c =
    let x = c.args in
    let z : x.n - 0 ≡ x.n = omega arith in
    let e = rw z at c.put_hex.ensures in
    (e.0, e.1, omega (arith, e.0, hexed-length (take x.n x.room.now), length-take-le x.n x.room.now (omega arith)))
