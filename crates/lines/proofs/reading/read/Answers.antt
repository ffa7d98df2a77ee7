-- One law for each way out. Assumes nothing.
use Prim.Native.Nat.{◌-◌}
use Rattle.lines.proofs.LineLaws.{no_space, no-time, speaks, ticks, too_long}
use Rattle.lines.proofs.reading.read.Goals as goal
use mathlib.Core.Path.{◌≡◌, sym, ◌∙◌}
use native.Mathlib.Omega.{arith}

pub returns-then-s-n : goal.returns-then-s-n
returns-then-s-n c = no_space c.args.s.now c.time_length-n.result c.time_length-n.ensures (omega arith)

pub returns-in_default : goal.returns-in_default
returns-in_default c =
    let n = c.time_length-n.result in
    let z : n - 0 ≡ n = omega arith in
    no-time c.args.s.now n c.time_length-n.ensures (omega arith) (rw z at (sym c.decimal.ensures ∙ c.in_default.is))

pub returns-then-s-n-gt32768 : goal.returns-then-s-n-gt32768
returns-then-s-n-gt32768 c =
    let n = c.time_length-n.result in
    let z : n - 0 ≡ n = omega arith in
    too_long c.args.s.now n c.time_length-n.ensures c.in-Some.time (omega arith)
    (rw z at (sym c.decimal.ensures ∙ c.in-Some.is)) (omega arith)

pub returns-then-stands_at : goal.returns-then-stands_at
returns-then-stands_at c =
    let n = c.time_length-n.result in
    let z : n - 0 ≡ n = omega arith in
    ticks c.args.s.now n c.time_length-n.ensures c.in-Some.time (omega arith)
    (rw z at (sym c.decimal.ensures ∙ c.in-Some.is)) (omega arith)
    (sym c.stands_at.ensures ∙ c.if-stands_at.true)

pub returns-else-stands_at : goal.returns-else-stands_at
returns-else-stands_at c =
    let n = c.time_length-n.result in
    let z : n - 0 ≡ n = omega arith in
    speaks c.args.s.now n c.time_length-n.ensures c.in-Some.time (omega arith)
    (rw z at (sym c.decimal.ensures ∙ c.in-Some.is)) (omega arith)
    (sym c.stands_at.ensures ∙ c.if-stands_at.false)
