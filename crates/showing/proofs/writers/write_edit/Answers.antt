-- By what is asked. Assumes nothing.
use Rattle.showing.proofs.ShownLaws.{says}
use Rattle.showing.proofs.WriterLaws.{add_line, remove_line}
use Rattle.showing.proofs.writers.write_edit.Goals as goal

pub returns-then-adds : goal.returns-then-adds
returns-then-adds c =
    let x = c.args in
    says x.out.now (add_line x.adds x.n x.s.now x.host.now x.destination.now x.organization.now c.if-adds.true)
    c.write_add.ensures

pub returns : goal.returns
returns c =
    let x = c.args in
    says x.out.now (remove_line x.adds x.n x.s.now x.host.now x.destination.now x.organization.now c.if-adds.false)
    c.write_remove.ensures
