-- `particulars::gathering::number_of` meets its contract. The loop keeps that the names still to come decide. Assumes nothing.
use Prim.Native.Nat.{◌+◌}
use Rattle.particulars.proofs.gathering.number_of.Given as goal
use Rattle.particulars.specs.Types.{names_of}
use Rattle.rules.specs.Pieces.{word_number, word_number_from}
use lib.ListN.{drop}
use mathlib.Core.Path.{◌≡◌}

abbrev pub invariant-loop-k : goal.invariant-loop-k
invariant-loop-k l = word_number (names_of l.fn.t) l.x ≡ word_number_from (drop l.k (names_of l.fn.t)) (l.k + 1) l.x
