-- The part that was lent comes back at the front. Assumes nothing.
use Rattle.showing.proofs.WriterLaws.{wrote-part}
use Rattle.showing.proofs.writers.add_into.Goals as goal

pub returns : goal.returns
returns c =
    wrote-part c.args.n c.args.room.now c.add.new.out _ c.requires c.add.auto.out c.add.ensures
