-- A line of fewer than 21 bytes is its own front. Assumes nothing.
use Rattle.lines.proofs.reading.time_length.Goals as goal
use Rattle.octets.specs.Text.{before}
use lib.ListN.{take}
use lib.Seq.{take_all}
use mathlib.Core.Path.{◌≡◌, ap}
use native.Mathlib.Omega.{arith}

pub returns-then-s-lt21 : goal.returns-then-s-lt21
returns-then-s-lt21 c =
    let s = c.args.s.now in
    let e : before 32 (take 21 s) ≡ before 32 s = ap (before 32) (take_all 21 s (omega arith)) in
    omega arith
