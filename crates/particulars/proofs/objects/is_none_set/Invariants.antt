-- `particulars::objects::is_none_set` meets its contract. The loop keeps that the members still to come decide. Assumes nothing.
use Prim.Native.Nat.{◌+◌}
use Rattle.particulars.proofs.FaultLaws.{none_from}
use Rattle.particulars.proofs.objects.is_none_set.Given as goal
use Rattle.particulars.specs.Faults.{choices, none_set}
use Rattle.particulars.specs.Types.{rows_of}
use lib.ListN.{drop}
use mathlib.Core.Path.{◌≡◌}

abbrev pub invariant-loop-k : goal.invariant-loop-k
invariant-loop-k l = none_set l.s (choices l.f.at 1 (rows_of l.fn.t)) ≡ none_from l.some l.s l.f.at (l.k + 1) (drop l.k (rows_of l.fn.t))
