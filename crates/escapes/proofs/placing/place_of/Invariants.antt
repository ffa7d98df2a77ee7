-- The octets of each letter are passed, or the one that is asked for is among them. Assumes nothing.
use Prim.Native.Nat.{◌-◌}
use Rattle.escapes.proofs.PlaceLaws.{Sofar}
use Rattle.escapes.proofs.placing.place_of.Given as goal
use lib.ListN.{length}

abbrev pub invariant-loop-i : goal.invariant-loop-i
invariant-loop-i l = Sofar l.raw l.k l.i l.n

abbrev pub decreases-loop-i : goal.decreases-loop-i
decreases-loop-i l = length l.raw - l.i
