-- `table::texts::put_text` meets its contract. Length, text and 00 stand one behind the other. Assumes nothing.
use Rattle.table.proofs.SlotLaws.{slot_written}
use Rattle.table.proofs.texts.put_text.Goals as goal

pub returns : goal.returns
returns c =
    slot_written c.args.out.now c.args.at c.args.room c.args.s.now c.requires.1 c.requires.2
    c.put.ensures.1
    c.put-e.ensures c.clear.ensures
