-- The part that was lent comes back at the front. Assumes nothing.
use Rattle.showing.proofs.WriterLaws.{wrote-part}
use Rattle.showing.proofs.writers.reply_into.Goals as goal

pub returns : goal.returns
returns c =
    wrote-part c.args.n c.args.room.now c.reply.new.out _ c.requires c.reply.auto.out c.reply.ensures
