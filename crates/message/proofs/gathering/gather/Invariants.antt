-- `message::gathering::gather` meets its contract. The loop keeps that the members still to come decide what is left to gather. Assumes nothing.
use Prim.Native.Nat.{◌-◌, ◌≤◌, ◌<◌}
use Rattle.fields.proofs.GatherLaws.{Sofar}
use Rattle.json_text.specs.Places.{members_from}
use Rattle.message.proofs.gathering.gather.Given as goal
use Rattle.rules.specs.Names.{fields}
use lib.ListN.{length}

abbrev pub invariant-loop : goal.invariant-loop
invariant-loop l = (0 < l.p) × ((l.p ≤ length l.s) × ((length l.s < 18446744073709551616) × Sofar fields l.s l.o l.at (members_from (length l.s - l.counter) l.s l.p)))
