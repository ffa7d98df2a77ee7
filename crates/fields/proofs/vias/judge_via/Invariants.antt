-- `fields::vias::judge_via` meets its contract. One law of `TrailLaws` for each way out of a turn. Assumes nothing.
use Prim.Native.Nat.{◌-◌, ◌≤◌, ◌<◌}
use Rattle.fields.proofs.TrailLaws.{Walking}
use Rattle.fields.proofs.vias.judge_via.Given as goal
use lib.ListN.{length}

abbrev pub invariant-loop : goal.invariant-loop
invariant-loop l = (l.p ≤ length l.v) × (((0 < length l.v) × (length l.v < 18446744073709551616)) × Walking l.v l.r l.h (length l.v - l.counter) l.p)
