-- An open line that is not empty is answered, and an empty one is not. Assumes nothing.
use Rattle.lines.proofs.TurnLaws.{last_none, last_some}
use Rattle.lines.proofs.WritingLaws.{front-written}
use Rattle.probe.proofs.CommandLaws.{answer-fits}
use Rattle.probe.proofs.last.Goals as goal
use Rattle.probe.specs.Commands.{line_done}
use Rattle.probe.specs.Effect.{holding}
use lib.ListN.{take}
use native.Mathlib.Omega.{arith}

pub returns-then-len-eq0 : goal.returns-then-len-eq0
returns-then-len-eq0 c =
    let x = c.args in
    last_none line_done (holding x.s.ceiling (take x.s.size x.held.now)) x.line.now x.s.len x.out.now c.if-len-eq0.true

pub hand_on-sent-requires : goal.hand_on-sent-requires
hand_on-sent-requires c =
    let x = c.args in
    let a = c.answer_kept-a.ensures in
    answer-fits x.out.now (line_done (holding x.s.ceiling (take x.s.size x.held.now)) (take x.s.len x.line.now)).text a.text.0 a.text.1

pub returns : goal.returns
returns c =
    let x = c.args in
    let a = c.answer_kept-a.ensures in
    let w = front-written x.out.now (line_done (holding x.s.ceiling (take x.s.size x.held.now)) (take x.s.len x.line.now)).text a.text.1 a.text.0 in
    last_some line_done (holding x.s.ceiling (take x.s.size x.held.now)) x.line.now x.s.len (omega arith) (omega arith) (rw c.hand_on-sent.ensures.0 w) a.held
