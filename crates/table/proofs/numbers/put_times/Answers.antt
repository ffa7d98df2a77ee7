-- `table::numbers::put_times` meets its contract. The parts stand one behind the other. Assumes nothing.
use Rattle.table.proofs.RecordLaws.{times-written}
use Rattle.table.proofs.numbers.put_times.Goals as goal

pub returns : goal.returns
returns c =
    let o =
    c in
    times-written c.args.out.now c.args.p c.args.f c.requires
    c.put_number.ensures c.put_number-2.ensures c.put.ensures.1 c.put_number-3.ensures
