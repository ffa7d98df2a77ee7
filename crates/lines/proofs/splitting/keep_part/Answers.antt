-- No room, a part that fits, or as much of it as there is room for. Assumes nothing.
use Prim.Native.Nat.{ℕ, ◌-◌}
use Rattle.lines.proofs.InputLaws.{fits, keep-full, keep-part, over}
use Rattle.lines.proofs.splitting.keep_part.Goals as goal
use lib.ListN.{length, take}
use lib.Seq.{length-take-le}
use mathlib.Core.Path.{◌≡◌, ◌∙◌}
use native.Mathlib.Omega.{arith}

pub returns-then-line-len : goal.returns-then-line-len
returns-then-line-len c = keep-full c.args.line.now c.args.len c.args.part.now (omega arith)

pub returns-then-part-room : goal.returns-then-part-room
returns-then-part-room c =
    let x = c.args in
    let w = keep-part x.line.now x.len x.part.now (omega arith) in
    rw (fits x.line.now x.len x.part.now (omega arith)) (c.put.ensures.0 ∙ w.0, c.put.ensures.1 ∙ w.1)

pub returns-else-part-room : goal.returns-else-part-room
returns-else-part-room c =
    let x = c.args in
    let n : ℕ = length x.line.now - x.len in
    let z : n - 0 ≡ n = omega arith in
    let w = keep-part x.line.now x.len (take n x.part.now) (rw (length-take-le n x.part.now (omega arith)) (omega arith)) in
    let e = rw z at c.put-else-part-room.ensures in
    rw (over x.line.now x.len x.part.now (omega arith)) (e.0 ∙ w.0, e.1 ∙ w.1)
