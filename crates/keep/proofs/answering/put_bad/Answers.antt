-- There is room for four bytes. Assumes nothing.
use Rattle.keep.proofs.LogLaws.{put-end}
use Rattle.keep.proofs.answering.put_bad.Goals as goal
use Rattle.lines.specs.Program.{bad_line}
use mathlib.Core.Path.{◌∙◌}
use native.Mathlib.Omega.{arith}

pub returns : goal.returns
unfolding bad_line
returns c =
    let x = c.args in
    let p = put-end x.out.now x.at bad_line (omega arith) c.write_bad.result x.at c.write_bad.ensures in
    let e = c.unwrap_or.ensures ∙ p.0 in
    (e, p.1, omega (arith, e))
