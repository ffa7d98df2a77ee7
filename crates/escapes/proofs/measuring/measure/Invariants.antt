-- What is read is measured. Assumes nothing.
use Prim.Native.Nat.{◌-◌}
use Rattle.escapes.proofs.MeasureLaws.{Sofar}
use Rattle.escapes.proofs.measuring.measure.Given as goal
use lib.ListN.{length}

abbrev pub invariant-loop-i : goal.invariant-loop-i
invariant-loop-i l = Sofar l.raw l.m l.i

abbrev pub decreases-loop-i : goal.decreases-loop-i
decreases-loop-i l = length l.raw - l.i
