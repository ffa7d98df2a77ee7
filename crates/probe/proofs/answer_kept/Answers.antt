-- The line is the first bytes. Assumes nothing.
use Prim.Native.Nat.{◌-◌}
use Rattle.probe.proofs.answer_kept.Goals as goal
use mathlib.Core.Path.{◌≡◌}
use native.Mathlib.Omega.{arith}

pub returns : goal.returns
returns c =
    let x = c.args in
    let z : x.len - 0 ≡ x.len = omega arith in
    rw z at c.answer.ensures
