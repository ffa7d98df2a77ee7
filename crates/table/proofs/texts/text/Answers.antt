-- `table::texts::text` meets its contract. A text within its room, or all of the room. Assumes nothing.
use Rattle.table.proofs.SlotLaws.{text-cut}
use Rattle.table.proofs.texts.text.Goals as goal

pub returns : goal.returns
returns c = text-cut c.args.r.now c.args.at c.args.room c.from.result c.requires c.from.ensures c.min.result c.min.ensures
