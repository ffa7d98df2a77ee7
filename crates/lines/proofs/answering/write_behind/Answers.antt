-- The part is the first n bytes. Assumes nothing.
use Prim.Native.Nat.{◌-◌}
use Rattle.lines.proofs.answering.write_behind.Goals as goal
use mathlib.Core.Path.{◌≡◌}
use native.Mathlib.Omega.{arith}

pub returns : goal.returns
returns c =
    let z : c.args.n - 0 ≡ c.args.n = omega arith in
    rw z at c.write_two.ensures
