-- `pieces::count_letters` meets its contract. The loop's invariant: the letters passed begin such a number, and v is what they are. Assumes nothing.
use Prim.Native.Nat.{◌+◌, ◌≤◌}
use Rattle.letters.proofs.pieces.count_letters.Given as goal
use Rattle.letters.specs.inner.Reach.{count_letters}
use lib.ListN.{drop}
use mathlib.Core.Path.{◌≡◌}

abbrev pub invariant-loop-i : goal.invariant-loop-i
invariant-loop-i l = (l.v ≤ 4294967295) × (count_letters l.hi 0 l.s ≡ l.i + count_letters l.hi l.v (drop l.i l.s))
