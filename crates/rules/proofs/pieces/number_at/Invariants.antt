-- `pieces::number_at` meets its contract. The loop's invariant: v is the number that the digits passed are. Assumes nothing.
use Rattle.rules.proofs.pieces.number_at.Given as goal
use Rattle.rules.specs.Pieces.{decimal_at}
use mathlib.Core.Path.{◌≡◌}

abbrev pub invariant-loop-i : goal.invariant-loop-i
invariant-loop-i l = l.v ≡ decimal_at l.i l.s l.at
