-- The line shows what the contract of `writing::add` determines on a filled room. Assumes nothing.
use Rattle.showing.proofs.ShownLaws.{says}
use Rattle.showing.proofs.WriterLaws.{wrote_line_lem}
use Rattle.showing.proofs.writers.write_add.Goals as goal

pub returns : goal.returns
returns c =
    says c.args.out.now (wrote_line_lem c.args.n _ c.requires c.fill.ensures c.add_into-w.ensures) c.put_written.ensures
