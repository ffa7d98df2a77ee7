-- `table::numbers::fields_of` meets its contract. Each field is what its call ensures. Assumes nothing.
use Rattle.table.proofs.RecordLaws.{fields_made}
use Rattle.table.proofs.numbers.fields_of.Goals as goal

pub returns : goal.returns
returns c =
    fields_made c.args.r.now c.word_at.ensures c.word_at-2.ensures
    c.word_at-3.ensures c.number_at.ensures c.number_at-2.ensures c.number_at-3.ensures
