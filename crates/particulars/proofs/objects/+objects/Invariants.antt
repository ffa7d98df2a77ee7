-- The cycle of an object, its members, and the objects in them. A call falls by the levels of objects, and within one from an object's members to a row, the value
-- under it and the array that it may be. Assumes nothing.
use Prim.Native.Nat.{◌*◌, ◌+◌, ◌-◌, ◌≤◌, ◌<◌}
use Rattle.json_text.specs.Places.{elements_from}
use Rattle.particulars.proofs.FaultLaws.{array_from}
use Rattle.particulars.proofs.objects.+objects.Given as goal
use Rattle.particulars.specs.Faults.{array_faults, faults, members_faults, rows_faults}
use Rattle.particulars.specs.Lowest.{lower, lowest}
use Rattle.particulars.specs.Types.{rows_of}
use lib.ListN.{drop, length}
use mathlib.Core.Path.{◌≡◌}

abbrev pub decreases-object : goal.decreases-object
decreases-object l = l.levels * 5

abbrev pub decreases-objects : goal.decreases-objects
decreases-objects l = l.levels * 5 + 1

abbrev pub decreases-under : goal.decreases-under
decreases-under l = l.levels * 5 + 2

abbrev pub decreases-row : goal.decreases-row
decreases-row l = l.levels * 5 + 3

abbrev pub decreases-members : goal.decreases-members
decreases-members l = l.levels * 5 + 4

-- the members to come decide, and the objects to come
abbrev pub invariant-members-loop-k : goal.invariant-members-loop-k
invariant-members-loop-k l =
    lowest (members_faults (λ u p. faults l.levels l.call u l.s p) l.call l.fn.t l.s l.o l.f.at)
    ≡ lower l.low (lowest (rows_faults (λ u p. faults l.levels l.call u l.s p) l.call l.w l.s l.o l.f.at (l.k + 1) (drop l.k (rows_of l.fn.t))))

abbrev pub invariant-objects-loop : goal.invariant-objects-loop
invariant-objects-loop l = record {
  high : l.p ≤ length l.s;
  small : length l.s < 18446744073709551616;
  few : l.n ≤ l.most;
  from :
      lowest (array_faults (λ p. faults l.levels l.call l.t l.s p) l.most l.s l.a)
      ≡ array_from (λ p. faults l.levels l.call l.t l.s p) l.most l.a l.n l.low (elements_from (length l.s - l.counter) l.s l.p);
}
