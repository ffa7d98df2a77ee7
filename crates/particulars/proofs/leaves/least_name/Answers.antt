-- `particulars::leaves::least_name` meets its contract, by its definition. Assumes nothing.
use Rattle.particulars.proofs.leaves.least_name.Goals as goal
use Rattle.particulars.specs.Leaves.{least_name}
use borrow.Author.Tests.{eq-eqb, ne_eqb}

pub returns-then-w-eq-PRESET : goal.returns-then-w-eq-PRESET
unfolding least_name
returns-then-w-eq-PRESET c = rw (eq-eqb c.args.w 3 c.if-w-eq-PRESET.true)

pub returns-else-w-eq-PRESET : goal.returns-else-w-eq-PRESET
unfolding least_name
returns-else-w-eq-PRESET c = rw (ne_eqb c.args.w 3 c.if-w-eq-PRESET.false)
