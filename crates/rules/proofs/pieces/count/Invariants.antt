-- `pieces::count` meets its contract. The loop's invariant: v is the number that the digits passed are, and not over hi. Assumes nothing.
use Prim.Native.Nat.{◌≤◌}
use Rattle.rules.proofs.pieces.count.Given as goal
use Rattle.rules.specs.Pieces.{decimal_at}
use mathlib.Core.Path.{◌≡◌}

abbrev pub invariant-loop-b : goal.invariant-loop-b
invariant-loop-b l = (l.v ≤ l.hi) × (l.v ≡ decimal_at l.b-index l.s 0)
