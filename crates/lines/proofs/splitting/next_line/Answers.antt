-- One law for each way out. Assumes nothing.
use Prim.Native.Nat.{◌≤◌}
use Rattle.lines.proofs.InputLaws.{beyond, carried, in_place, part_none, part-rest, part-to}
use Rattle.lines.proofs.splitting.next_line.Goals as goal
use Rattle.lines.specs.inner.Splitting.{line_end}
use lib.ListN.{length}
use mathlib.Core.List.{[]}
use native.Mathlib.Omega.{arith}

pub returns-then-s-from : goal.returns-then-s-from
returns-then-s-from c =
    let x = c.args in
    let p = part_none x.s.now x.from (omega arith) in
    beyond x.line.now x.len x.s.now x.from [] p.1 p.0 c.keep_part.ensures

pub returns-then-s-e : goal.returns-then-s-e
returns-then-s-e c =
    let x = c.args in
    let h : length x.s.now ≤ line_end x.s.now x.from = omega arith in
    beyond x.line.now x.len x.s.now x.from _ h (part-rest x.s.now x.from (omega arith) h) c.keep_part-then-s-e.ensures

pub returns-then-len-eq0 : goal.returns-then-len-eq0
returns-then-len-eq0 c =
    let x = c.args in
    in_place x.line.now x.len x.s.now x.from c.find-e.ensures (omega arith) c.if-len-eq0.true

pub returns : goal.returns
returns c =
    let x = c.args in
    carried x.line.now x.len x.s.now x.from _ c.find-e.ensures (omega arith) c.if-len-eq0.false
    (part-to x.s.now x.from c.find-e.result c.find-e.ensures) c.keep_part-2.ensures
