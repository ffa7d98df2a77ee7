-- The event's answer is written. Assumes nothing.
use Prim.Native.Nat.{◌-◌}
use Rattle.probe.proofs.EventLaws.{happened}
use Rattle.probe.proofs.events.happens.Goals as goal
use Rattle.probe.specs.Events.{event_on}
use lib.ListN.{take}
use mathlib.Core.Path.{◌≡◌}
use native.Mathlib.Omega.{arith}

pub returns : goal.returns
returns c =
    let x = c.args in
    let z : x.n - 0 ≡ x.n = omega arith in
    happened (event_on x.ceiling (take x.size x.held.now) x.tick x.time (take x.n x.bytes.now)) x.out.now x.size c.event.new.held
    (rw z at c.event.ensures) c.put_event.ensures c.requires.0
