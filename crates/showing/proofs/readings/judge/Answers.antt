-- The first n bytes are read. Assumes nothing.
use Prim.Native.Nat.{◌-◌}
use Rattle.showing.proofs.readings.judge.Goals as goal
use mathlib.Core.Path.{◌≡◌}
use native.Mathlib.Omega.{arith}

pub returns : goal.returns
returns c =
    let x = c.args in
    let z : x.n - 0 ≡ x.n = omega arith in
    rw z at (rw c.read_and_count.ensures at c.put_report.ensures)
