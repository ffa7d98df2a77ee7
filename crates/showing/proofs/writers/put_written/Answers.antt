-- The puts make a chain. Assumes nothing.
use Rattle.octets.proofs.Chain.{more}
use Rattle.showing.proofs.WriterLaws.{begun, ended, wrote-parts}
use Rattle.showing.proofs.writers.put_written.Goals as goal
use Rattle.showing.specs.Shown.{hexed}
use lib.ListN.{take}
use mathlib.Core.List.{[], ◌∷◌}

pub returns : goal.returns
returns c =
    let x = c.args in
    let room = take x.n x.room.now in
    let p = c.put_room-p.ensures in
    ended _ (more (10 ∷ []) (more (hexed room) (begun c.put_head-p.ensures.0) (p.0, p.1)) c.put.ensures) (wrote-parts x.w room)
