use Rattle.table.proofs.RoomLaws.{same_none, same_more}
use Rattle.table.proofs.texts.same_at_once.Goals as goal
use native.Mathlib.Omega.{arith}

pub loop-i-init : goal.loop-i-init
loop-i-init c = same_none c.args.a.now c.args.b.now

pub loop-i-preserved : goal.loop-i-preserved
loop-i-preserved c = rw c.loop-i.invariant (same_more c.args.a.now c.args.b.now c.loop-i.i c.requires (omega arith))
