-- The line shows what the contract of `writing::remove` determines on a filled room. Assumes nothing.
use Rattle.showing.proofs.ShownLaws.{says}
use Rattle.showing.proofs.WriterLaws.{took_line_lem}
use Rattle.showing.proofs.writers.write_remove.Goals as goal

pub returns : goal.returns
returns c =
    says c.args.out.now (took_line_lem c.args.n _ c.requires.0 c.fill.ensures c.args.s.now c.remove_into-r.ensures)
    c.put_removed.ensures
