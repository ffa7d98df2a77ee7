use Rattle.table.proofs.MarkLaws.{marked-none, marked_more}
use Rattle.table.proofs.marks.is_marked.Goals as goal

pub loop-i-init : goal.loop-i-init
loop-i-init c = marked-none c.args.marks.now c.args.m

pub loop-i-preserved : goal.loop-i-preserved
loop-i-preserved c = rw c.loop-i.invariant (marked_more c.args.marks.now c.loop-i.i c.args.m)
