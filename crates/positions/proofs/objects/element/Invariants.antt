-- `positions::objects::element` meets its contract. The loop keeps that the elements still to come decide. Assumes nothing.
use Prim.Native.Nat.{◌-◌, ◌≤◌}
use Rattle.json_text.specs.Places.{elements, elements_from}
use Rattle.positions.proofs.objects.element.Given as goal
use Rattle.std.specs.Prelude.{slice_get}
use lib.ListN.{length}
use mathlib.Core.Path.{◌≡◌}

abbrev pub invariant-loop-i : goal.invariant-loop-i
invariant-loop-i l = record {
  ahead : l.i ≤ l.k;
  from : slice_get (elements l.v 0) l.k ≡ slice_get (elements_from (length l.v - l.i) l.v l.p) (l.k - l.i);
}
