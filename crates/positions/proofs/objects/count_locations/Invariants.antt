-- `positions::objects::count_locations` meets its contract. The loop keeps that there are as many more as are still to come. Assumes nothing.
use Prim.Native.Nat.{◌+◌, ◌-◌}
use Rattle.json_text.specs.Places.{elements, elements_from}
use Rattle.positions.proofs.objects.count_locations.Given as goal
use lib.ListN.{length}
use mathlib.Core.Path.{◌≡◌}

abbrev pub invariant-loop-i : goal.invariant-loop-i
invariant-loop-i l = length (elements l.v 0) ≡ l.i + length (elements_from (length l.v - l.i) l.v l.p)
