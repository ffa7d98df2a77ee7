use Rattle.table.proofs.MarkLaws.{mark_more, mark_ends}
use Rattle.table.proofs.marks.mark.Goals as goal
use mathlib.Core.Path.{sym, ◌∙◌}
use native.Mathlib.Omega.{arith}

pub loop-b-preserved : goal.loop-b-preserved
loop-b-preserved c = (
  omega arith,
  rw c.from.ensures (c.loop-b.invariant.1 ∙ mark_more c.args.s.now c.loop-b.b-index c.loop-b.v (omega arith)),
)

pub returns : goal.returns
returns c = sym (c.loop-b.invariant.1 ∙ mark_ends c.args.s.now c.loop-b.b-index c.loop-b.v (omega arith))
