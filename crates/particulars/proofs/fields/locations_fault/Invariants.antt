-- `particulars::fields::locations_fault` meets its contract. The loop keeps that the locations still to come decide. Assumes nothing.
use Prim.Native.Nat.{◌-◌, ◌≤◌, ◌<◌}
use Rattle.json_text.specs.Places.{elements_from}
use Rattle.particulars.proofs.fields.locations_fault.Given as goal
use Rattle.particulars.specs.Fields.{locations_faults, locations_from}
use Rattle.particulars.specs.Lowest.{lower, lowest}
use lib.ListN.{length}
use mathlib.Core.Path.{◌≡◌}

abbrev pub invariant-loop : goal.invariant-loop
invariant-loop l = record {
  high : l.p ≤ length l.v;
  small : length l.v < 18446744073709551616;
  from : lowest (locations_faults l.v) ≡ lower l.low (lowest (locations_from l.v l.w (elements_from (length l.v - l.counter) l.v l.p)));
}
