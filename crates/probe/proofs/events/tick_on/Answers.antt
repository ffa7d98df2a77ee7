-- The first bytes are lent. Assumes nothing.
use Prim.Native.Nat.{ℕ}
use Rattle.keeper.specs.Keeping.{on_tick}
use Rattle.probe.proofs.EventLaws.{came_back}
use Rattle.probe.proofs.events.tick_on.Goals as goal
use lib.ListN.{length}
use mathlib.Core.List.{List}
use mathlib.Core.Path.{◌≡◌}
use native.Mathlib.Omega.{arith}

pub returns : goal.returns
returns c =
    let x = c.args in
    let p = c.tick.new.t in
    let l : length p ≡ x.size = omega arith in
    came_back (λ (t : List ℕ). on_tick t x.time x.s.now) x.held.now x.size p l c.tick.ensures
