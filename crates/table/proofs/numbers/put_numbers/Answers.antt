-- `table::numbers::put_numbers` meets its contract. The two parts stand one behind the other. Assumes nothing.
use Rattle.table.proofs.RecordLaws.{numbers-written}
use Rattle.table.proofs.numbers.put_numbers.Goals as goal

pub returns : goal.returns
returns c =
    numbers-written c.args.out.now c.args.p c.args.f c.requires
    c.put_counts.ensures c.put_times.ensures
