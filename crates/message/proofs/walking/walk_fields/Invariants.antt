-- `message::walking::walk_fields` meets its contract. The loop keeps the machine's answer beside what is gathered; one law of `WalkLaws` for each way out. Assumes nothing.
use Prim.Native.Nat.{◌-◌, ◌≤◌, ◌<◌}
use Rattle.message.proofs.WalkLaws.{Walking}
use Rattle.message.proofs.walking.walk_fields.Given as goal
use lib.ListN.{length}

abbrev pub invariant-loop : goal.invariant-loop
invariant-loop l =
    (0 < l.p) × ((l.p ≤ length l.s) × ((length l.s < 18446744073709551616) × Walking l.s l.o l.room l.at l.ends (length l.s - l.counter) l.p l.spare))
