-- `particulars::gathering::gather` meets its contract. The loop keeps what is gathered so far. Assumes nothing.
use Prim.Native.Nat.{◌-◌, ◌≤◌, ◌<◌}
use Rattle.json_text.specs.Places.{members_from}
use Rattle.particulars.proofs.GatheringLaws.{Sofar}
use Rattle.particulars.proofs.gathering.gather.Given as goal
use Rattle.particulars.specs.Types.{names_of}
use lib.ListN.{length}

abbrev pub invariant-loop : goal.invariant-loop
invariant-loop l = record {
  low : 0 < l.p;
  high : l.p ≤ length l.s;
  small : length l.s < 18446744073709551616;
  sofar : Sofar (names_of l.t) l.s l.o l.f.again l.f.at l.f.end (members_from (length l.s - l.counter) l.s l.p);
}
