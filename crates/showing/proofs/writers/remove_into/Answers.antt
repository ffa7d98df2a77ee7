-- The part that was lent comes back at the front. Assumes nothing.
use Rattle.showing.proofs.WriterLaws.{took-part}
use Rattle.showing.proofs.writers.remove_into.Goals as goal

pub returns : goal.returns
returns c =
    took-part c.args.n c.args.room.now c.remove.new.out _ c.requires c.remove.auto.out
    c.remove.ensures
