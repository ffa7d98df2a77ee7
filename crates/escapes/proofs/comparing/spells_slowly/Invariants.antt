-- The rests decide, letter by letter. Assumes nothing.
use Prim.Native.Nat.{◌-◌, ◌≤◌}
use Rattle.escapes.proofs.comparing.spells_slowly.Given as goal
use Rattle.escapes.specs.Rfc7159.{spells}
use lib.ListN.{drop, length}
use mathlib.Core.Path.{◌≡◌}

abbrev pub invariant-loop-i : goal.invariant-loop-i
invariant-loop-i l = (l.i ≤ length l.raw) × (l.j ≤ length l.w) × (spells l.raw l.w ≡ spells (drop l.i l.raw) (drop l.j l.w))

abbrev pub decreases-loop-i : goal.decreases-loop-i
decreases-loop-i l = length l.raw - l.i
