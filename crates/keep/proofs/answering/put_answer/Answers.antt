-- There is room for 32 bytes more than a time has. Assumes nothing.
use Rattle.keep.proofs.LogLaws.{put-end}
use Rattle.keep.proofs.answering.put_answer.Goals as goal
use Rattle.lines.specs.Program.{answer_line}
use mathlib.Core.Path.{◌∙◌}
use native.Mathlib.Omega.{arith}

pub returns : goal.returns
returns c =
    let x = c.args in
    let w = c.write_answer.ensures in
    let p = put-end x.out.now x.at (answer_line x.time.now x.a) (omega (arith, w.2)) c.write_answer.result x.at (w.0, w.1) in
    let e = c.unwrap_or.ensures ∙ p.0 in
    (e, p.1, omega (arith, w.2, e))
