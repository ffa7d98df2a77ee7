use Rattle.table.proofs.SlotLaws.{zeros-none, zeros-more}
use Rattle.table.proofs.texts.all_zero.Goals as goal
use native.Mathlib.Omega.{arith}

pub loop-b-init : goal.loop-b-init
loop-b-init c = zeros-none c.args.s.now

pub loop-b-preserved : goal.loop-b-preserved
loop-b-preserved c = rw c.loop-b.invariant (zeros-more c.args.s.now c.loop-b.b-index (omega arith))
