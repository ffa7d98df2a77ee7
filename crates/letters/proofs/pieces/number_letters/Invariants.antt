-- `pieces::number_letters` meets its contract. The loop's invariant: the letters passed begin such a number, and v is what they are. Assumes nothing.
use Prim.Native.Nat.{◌+◌, ◌-◌, ◌≤◌}
use Rattle.letters.proofs.pieces.number_letters.Given as goal
use Rattle.letters.specs.inner.Reach.{number_letters}
use lib.ListN.{drop}
use mathlib.Core.Path.{◌≡◌}

abbrev pub invariant-loop-i : goal.invariant-loop-i
invariant-loop-i l = (l.v ≤ 9999) × (number_letters l.lo l.hi l.n 0 l.s ≡ l.i + number_letters l.lo l.hi (l.n - l.i) l.v (drop l.i l.s))
