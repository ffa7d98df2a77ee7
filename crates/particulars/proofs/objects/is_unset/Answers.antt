-- `particulars::objects::is_unset` meets its contract, by its definition. Assumes nothing.
use Rattle.particulars.proofs.objects.is_unset.Goals as goal
use Rattle.particulars.specs.Faults.{is_unset}
use borrow.Author.Tests.{ne_eqb}

pub returns-then-v-eq0 : goal.returns-then-v-eq0
unfolding is_unset
returns-then-v-eq0 c = rw c.if-v-eq0.true

pub returns-else-v-eq0 : goal.returns-else-v-eq0
unfolding is_unset
returns-else-v-eq0 c = rw (ne_eqb c.args.v 0 c.if-v-eq0.false, c.is_blank.ensures, c.value_at.ensures)
