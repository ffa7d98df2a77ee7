-- Two parts. Assumes nothing.
use Rattle.lines.proofs.answering.write_bad.Goals as goal
use Rattle.lines.specs.Program.{bad_line}

pub returns : goal.returns
unfolding bad_line
returns c = c.write_two.ensures
