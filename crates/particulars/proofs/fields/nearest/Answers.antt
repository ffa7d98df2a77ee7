-- `particulars::fields::nearest` meets its contract, by its definition. Assumes nothing.
use Rattle.particulars.proofs.fields.nearest.Goals as goal
use Rattle.particulars.specs.Fields.{nearest}
use borrow.Author.Tests.{ne_eqb}

pub returns-then-n-eq0 : goal.returns-then-n-eq0
unfolding nearest
returns-then-n-eq0 c = rw c.if-n-eq0.true

pub returns-else-n-eq0 : goal.returns-else-n-eq0
unfolding nearest
returns-else-n-eq0 c = rw (ne_eqb c.args.n 0 c.if-n-eq0.false)
