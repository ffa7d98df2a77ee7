-- `pieces::run_letters` meets its contract. The loop's invariant: the letters passed follow one another. Assumes nothing.
use Prim.Native.Nat.{◌+◌}
use Rattle.letters.proofs.pieces.run_letters.Given as goal
use Rattle.letters.specs.inner.Reach.{run_letters}
use lib.ListN.{drop}
use mathlib.Core.Path.{◌≡◌}

abbrev pub invariant-loop-i : goal.invariant-loop-i
invariant-loop-i l = run_letters l.hi l.class l.edge 0 l.s ≡ l.i + run_letters l.hi l.class l.edge l.i (drop l.i l.s)
