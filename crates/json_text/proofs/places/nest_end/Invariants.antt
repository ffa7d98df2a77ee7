-- What is left of the array or object from where the loop stands, with n brackets open, leads to the same end. n is at most i, so it fits. Assumes nothing.
use Prim.Native.Nat.{◌+◌, ◌-◌, ◌≤◌, ◌<◌}
use Rattle.json_text.proofs.places.nest_end.Given as goal
use Rattle.json_text.specs.Places.{left, outside}
use lib.ListN.{length, drop}
use mathlib.Core.Path.{◌≡◌}

abbrev pub invariant-loop-i : goal.invariant-loop-i
invariant-loop-i l = (l.a ≤ l.i) × (l.i ≤ length l.s) × (0 < l.n) × (l.n ≤ l.i) × (l.a + left (drop l.a l.s) outside 1 ≡ l.i + left (drop l.i l.s) outside l.n)

abbrev pub decreases-loop-i : goal.decreases-loop-i
decreases-loop-i l = length l.s - l.i
