-- `utf8::check` meets its contract. The loop keeps that all before was passed: the character there, then what is passed at once. Assumes nothing.
use Prim.Native.Nat.{◌-◌}
use Rattle.utf8.proofs.check.Given as goal
use Rattle.utf8.specs.inner.Passed.{Passed}
use lib.ListN.{length}

abbrev pub invariant-loop-i : goal.invariant-loop-i
invariant-loop-i l = Passed l.s 0 l.i

abbrev pub decreases-loop-i : goal.decreases-loop-i
decreases-loop-i l = length l.s - l.i
