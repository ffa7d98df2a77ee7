-- A run of 32 is passed at once, then the byte that ended it; the rest is the tail's. Assumes nothing.
use Prim.Native.Nat.{◌+◌, ◌-◌, ◌≤◌}
use Rattle.json_text.proofs.places.string_end.Given as goal
use Rattle.json_text.specs.Places.{left, quoted}
use lib.ListN.{length, drop}
use mathlib.Core.Path.{◌≡◌}

abbrev pub invariant-loop-i : goal.invariant-loop-i
invariant-loop-i l = (l.a ≤ l.i) × (l.i ≤ length l.s) × (l.a + left (drop l.a l.s) quoted 0 ≡ l.i + left (drop l.i l.s) quoted 0)

abbrev pub decreases-loop-i : goal.decreases-loop-i
decreases-loop-i l = length l.s - l.i
