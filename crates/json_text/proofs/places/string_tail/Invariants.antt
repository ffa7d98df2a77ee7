-- What is left of the string from where the loop stands leads to the same end; an escape takes two bytes. Assumes nothing.
use Prim.Native.Nat.{◌+◌, ◌-◌, ◌≤◌}
use Rattle.json_text.proofs.places.string_tail.Given as goal
use Rattle.json_text.specs.Places.{left, quoted}
use lib.ListN.{length, drop}
use mathlib.Core.Path.{◌≡◌}

abbrev pub invariant-loop-i : goal.invariant-loop-i
invariant-loop-i l = (l.a ≤ l.i) × (l.i ≤ length l.s) × (l.a + left (drop l.a l.s) quoted 0 ≡ l.i + left (drop l.i l.s) quoted 0)

abbrev pub decreases-loop-i : goal.decreases-loop-i
decreases-loop-i l = length l.s - l.i
