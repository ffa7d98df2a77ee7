-- `message::facts::message_of` meets its contract. By its definition and what the callees ensure. Assumes nothing.
use Rattle.fields.proofs.TrailLaws.{fits}
use Rattle.message.proofs.FactLaws.{message-is}
use Rattle.message.proofs.PartyLaws.{held}
use Rattle.message.proofs.facts.message_of.Goals as goal
use borrow.Author.Rules.{rules}
use lib.ListN.{get_or}

pub secure_of-requires : goal.secure_of-requires
secure_of-requires c = c.requires.1.ends 17

pub spelling_span-requires : goal.spelling_span-requires
spelling_span-requires c = c.requires.1.ends 5

pub spelling_span-v-requires : goal.spelling_span-v-requires
spelling_span-v-requires c = c.requires.1.ends 3

pub spelling_span-w-requires : goal.spelling_span-w-requires
spelling_span-w-requires c = c.requires.1.ends 2

pub sorted-p-requires : goal.sorted-p-requires
sorted-p-requires c = (
  held _ _ c.requires.0.sent,
  held _ _ c.requires.0.meant,
)

pub moved-requires : goal.moved-requires
moved-requires c =
    fits c.args.s.now (get_or c.args.at.now 6 0) (search rules) c.requires.0.trailed

pub returns : goal.returns
returns c =
    message-is c.args.s.now c.args.k c.args.at.now c.requires.0 c.side_of.ensures c.secure_of.ensures
    c.spelling_span.ensures c.spelling_span-v.ensures c.spelling_span-w.ensures c.sorted-p.ensures c.moved.ensures
