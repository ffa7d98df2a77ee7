-- `table::records::open` meets its contract. The parts stand one behind the other, from the record's first byte to its last. Assumes nothing.
use Rattle.table.proofs.RecordLaws.{opened}
use Rattle.table.proofs.records.open.Goals as goal

pub returns : goal.returns
returns c =
    opened c.args.call_id.now c.args.user.now c.args.caller_fire.now c.args.callee_fire.now c.args.f c.requires.1 c.requires.2 c.requires.3
    c.requires.4 c.args.t.now c.args.k c.requires.0 c.put.ensures.1 c.put_text.ensures c.put_text-2.ensures
    c.put_text-3.ensures c.put_text-4.ensures c.put_numbers.ensures
