-- `particulars::leaves::is_text` meets its contract, by how many characters there are. Assumes nothing.
use Rattle.octets.specs.Class.{among}
use Rattle.particulars.proofs.LeafLaws.{no-text, some-text}
use Rattle.particulars.proofs.leaves.is_text.Goals as goal
use borrow.Author.Tests.{le-leb, lt-leb}
use mathlib.Core.Path.{◌∙◌}

pub returns-in-None : goal.returns-in-None
returns-in-None c = no-text c.args.v.now c.args.lo c.args.hi c.in-None.ensures

pub returns-then-lo-n : goal.returns-then-lo-n
unfolding among
returns-then-lo-n c = rw (le-leb c.args.lo c.in-Some.n c.if-lo-n.true) at (some-text c.args.v.now c.args.lo c.args.hi c.in-Some.ensures)

pub returns-else-lo-n : goal.returns-else-lo-n
unfolding among
returns-else-lo-n c =
    let z = lt-leb c.args.lo c.in-Some.n c.if-lo-n.false in
    z ∙ (rw z at (some-text c.args.v.now c.args.lo c.args.hi c.in-Some.ensures))
