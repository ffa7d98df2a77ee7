-- `fields::hops::hop_members` meets its contract. One law of `HopLaws` for each way out of a turn. Assumes nothing.
use Prim.Native.Nat.{◌-◌, ◌≤◌, ◌<◌}
use Rattle.fields.proofs.HopLaws.{Walking}
use Rattle.fields.proofs.hops.hop_members.Given as goal
use Rattle.fields.specs.inner.Gathering.{Open}
use lib.ListN.{length}
use mathlib.Core.Bool.{true}
use mathlib.Core.Path.{◌≡◌}

abbrev pub invariant-loop : goal.invariant-loop
invariant-loop l =
    (0 < l.p) × ((l.p ≤ length l.v) × ((length l.v < 18446744073709551616) × (Walking l.v l.o l.m (length l.v - l.counter) l.p × (l.known ≡ true → Open l.v l.o l.p))))
