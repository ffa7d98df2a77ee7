-- The hex, and a line feed behind it. Assumes nothing.
use Prim.Native.Nat.{◌-◌}
use Rattle.lines.proofs.Cutting.{short}
use Rattle.probe.proofs.TableLaws.{dumped}
use Rattle.probe.proofs.tables.dump.Goals as goal
use Rattle.showing.proofs.ShownLaws.{hexed-length}
use lib.ListN.{take}
use mathlib.Core.Path.{◌≡◌}
use native.Mathlib.Omega.{arith}

pub put-requires : goal.put-requires
put-requires c =
    let x = c.args in
    omega (arith, c.put_hex-behind.ensures.0, hexed-length (take (x.size - 0) x.held.now), short (x.size - 0) x.held.now)

pub returns : goal.returns
returns c =
    let x = c.args in
    let z : x.size - 0 ≡ x.size = omega arith in
    dumped x.out.now (take x.size x.held.now) (rw z at c.put_hex-behind.ensures) c.put.ensures
