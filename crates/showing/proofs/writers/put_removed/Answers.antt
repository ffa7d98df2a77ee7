-- The puts make a chain; the next host is a part of the message, so there is room. Assumes nothing.
use Rattle.octets.proofs.Chain.{more}
use Rattle.showing.proofs.ShownLaws.{hexed-length}
use Rattle.showing.proofs.WriterLaws.{begun, ended, hop-short, took-parts}
use Rattle.showing.proofs.writers.put_removed.Goals as goal
use Rattle.showing.specs.Shown.{hexed}
use lib.ListN.{length, take}
use mathlib.Core.List.{[], ◌∷◌}
use mathlib.Core.Path.{ap}
use native.Mathlib.Omega.{arith}

pub put_hex-p-requires : goal.put_hex-p-requires
put_hex-p-requires c =
    omega (arith, ap length c.next_hop.ensures, hop-short c.args.s.now c.args.r)

pub put-requires : goal.put-requires
put-requires c =
    omega (
      arith,
      ap length c.next_hop.ensures,
      hop-short c.args.s.now c.args.r,
      hexed-length c.next_hop.result.now,
      c.put_hex-p.ensures.0,
    )

pub returns : goal.returns
returns c =
    let x = c.args in
    let room = take x.n x.room.now in
    let p = c.put_room-p.ensures in
    ended _ (more (10 ∷ []) (more (hexed c.next_hop.result.now)
    (more (32 ∷ []) (more (hexed room) (begun c.put_head-p.ensures.0) (p.0, p.1)) c.put-p.ensures) c.put_hex-p.ensures)
    c.put.ensures) (took-parts x.r room x.s.now c.written_of.ensures c.next_hop.ensures)
