-- The verdict on the first bytes. Assumes nothing.
use Prim.Native.Nat.{◌-◌}
use Rattle.probe.proofs.tables.judge.Goals as goal
use mathlib.Core.Path.{◌≡◌}
use native.Mathlib.Omega.{arith}

pub returns : goal.returns
returns c =
    let x = c.args in
    let z : x.size - 0 ≡ x.size = omega arith in
    rw z at (rw c.well_formed-2.ensures at c.verdict.ensures)
