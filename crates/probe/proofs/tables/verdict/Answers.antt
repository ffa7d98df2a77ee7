-- One part at the front, by the verdict. Assumes nothing.
use Rattle.octets.proofs.Chain.{more, start}
use Rattle.octets.specs.Ascii.{ascii}
use Rattle.probe.proofs.tables.verdict.Goals as goal

pub returns-then-good : goal.returns-then-good
returns-then-good c = rw c.if-good.true
    (let w = more (ascii "ok\n") (start c.args.out.now) c.put.ensures in (w.place, w.is))

pub returns-else-good : goal.returns-else-good
returns-else-good c = rw c.if-good.false
    (let w = more (ascii "no 1\n") (start c.args.out.now) c.put-else-good.ensures in (w.place, w.is))
