-- An open line that is not empty is answered, and an empty one is not. Assumes nothing.
use Rattle.keep.proofs.last.Goals as goal
use Rattle.keep.specs.Log.{line_done}
use Rattle.lines.proofs.TurnLaws.{last_none, last_some}
use Rattle.octets.proofs.Chain.{take-splice}
use lib.ListN.{take}
use native.Mathlib.Omega.{arith}

pub returns-then-len-eq0 : goal.returns-then-len-eq0
returns-then-len-eq0 c =
    let x = c.args in
    last_none line_done x.table.now x.line.now x.s.len x.out.now c.if-len-eq0.true

pub returns : goal.returns
returns c =
    let x = c.args in
    let a = c.answer_kept-end.ensures in
    let w = take-splice x.out.now 0 (line_done x.table.now (take x.s.len x.line.now)).text (omega arith) in
    last_some line_done x.table.now x.line.now x.s.len (omega arith) (omega arith) (rw (c.hand_on-sent.ensures.0, a.0, a.1) w) a.2
