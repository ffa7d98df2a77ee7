-- What is read is decoded over the front of the buffer. Assumes nothing.
use Prim.Native.Nat.{◌-◌}
use Rattle.escapes.proofs.DecodeLaws.{Sofar}
use Rattle.escapes.proofs.decoding.decode.Given as goal
use lib.ListN.{length}

abbrev pub invariant-loop-i : goal.invariant-loop-i
invariant-loop-i l = Sofar l.raw l.initial.out l.out l.n l.i

abbrev pub decreases-loop-i : goal.decreases-loop-i
decreases-loop-i l = length l.raw - l.i
