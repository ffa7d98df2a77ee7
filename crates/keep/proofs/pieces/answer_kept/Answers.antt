-- By what `answer` ensures of the part. Assumes nothing.
use Prim.Native.Nat.{◌-◌}
use Rattle.keep.proofs.pieces.answer_kept.Goals as goal
use mathlib.Core.Path.{◌≡◌}
use native.Mathlib.Omega.{arith}

pub returns : goal.returns
returns c =
    let z : c.args.n - 0 ≡ c.args.n = omega arith in
    rw z at c.answer.ensures
