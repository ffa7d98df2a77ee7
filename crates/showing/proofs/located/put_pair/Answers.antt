-- The parts one behind the other. Assumes nothing.
use Rattle.showing.proofs.LocatedLaws.{put-pair}
use Rattle.showing.proofs.located.put_pair.Goals as goal
use Rattle.std.proofs.lemmas.Int.{to_z-of_z}
use mir.Syntax.{w32}

pub returns : goal.returns
returns c =
    let x = c.args in
    put-pair x.out.now x.at x.latitude x.longitude c.requires c.put-first.ensures
    (rw (to_z-of_z w32 x.latitude c.ranges.latitude) at c.put_signed-space.ensures) c.put-second.ensures
    (rw (to_z-of_z w32 x.longitude c.ranges.longitude) at c.put_signed.ensures)
