-- A zero is passed each turn. Assumes nothing.
use Prim.Native.Nat.{◌-◌, ◌≤◌}
use Rattle.showing.proofs.words.zeros.Given as goal
use Rattle.showing.specs.Words.{numeral}
use lib.ListN.{drop, length}
use mathlib.Core.Path.{◌≡◌}

abbrev pub invariant-loop-i : goal.invariant-loop-i
invariant-loop-i l = (l.i ≤ length l.word) × (numeral (drop l.i l.word) ≡ numeral l.word)

abbrev pub decreases-loop-i : goal.decreases-loop-i
decreases-loop-i l = length l.word - l.i
