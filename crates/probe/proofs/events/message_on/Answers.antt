-- The first bytes are lent. Assumes nothing.
use Prim.Native.Nat.{ℕ}
use Rattle.keeper.specs.Keeping.{on_message}
use Rattle.probe.proofs.EventLaws.{came_back}
use Rattle.probe.proofs.events.message_on.Goals as goal
use lib.ListN.{length}
use mathlib.Core.List.{List}
use mathlib.Core.Path.{◌≡◌}
use native.Mathlib.Omega.{arith}

pub returns : goal.returns
returns c =
    let x = c.args in
    let p = c.message.new.t in
    let l : length p ≡ x.size = omega arith in
    came_back (λ (t : List ℕ). on_message x.ceiling t x.time x.s.now) x.held.now x.size p l c.message.ensures
