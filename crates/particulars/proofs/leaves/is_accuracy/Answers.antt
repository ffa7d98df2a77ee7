-- `particulars::leaves::is_accuracy` meets its contract, by its definition. Assumes nothing.
use Rattle.particulars.proofs.leaves.is_accuracy.Goals as goal
use Rattle.particulars.specs.Leaves.{accuracy_rule}
use mathlib.Core.Path.{sym, ◌∙◌}

pub returns-then-not-is_given : goal.returns-then-not-is_given
unfolding accuracy_rule
returns-then-not-is_given c = rw (sym c.is_metres.ensures ∙ c.if-is_metres.true, sym c.is_given.ensures ∙ c.if-not-is_given.true, c.if-not-is_given.true)

pub returns-else-not-is_given : goal.returns-else-not-is_given
unfolding accuracy_rule
returns-else-not-is_given c = rw (sym c.is_metres.ensures ∙ c.if-is_metres.true, sym c.is_given.ensures ∙ c.if-not-is_given.false, c.same.ensures)

pub returns-else-is_metres : goal.returns-else-is_metres
unfolding accuracy_rule
returns-else-is_metres c = rw (sym c.is_metres.ensures ∙ c.if-is_metres.false, c.if-is_metres.false)
