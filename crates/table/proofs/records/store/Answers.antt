-- `table::records::store` meets its contract. State and numbers are written within the record, around its texts. Assumes nothing.
use Rattle.table.proofs.RecordLaws.{stored}
use Rattle.table.proofs.records.store.Goals as goal

pub returns : goal.returns
returns c =
    stored c.args.t.now c.args.k c.args.f c.requires c.put.ensures.1
    c.put_numbers.ensures
