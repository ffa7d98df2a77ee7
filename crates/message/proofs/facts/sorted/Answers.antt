-- `message::facts::sorted` meets its contract. By its definition and what the callees ensure. Assumes nothing.
use Rattle.message.proofs.facts.sorted.Goals as goal
use mathlib.Core.Path.{sym, ◌∙◌}

pub returns-then-side_of : goal.returns-then-side_of
returns-then-side_of c = rw (sym c.side_of.ensures ∙ c.if-side_of.true) c.parties_of.ensures

pub returns : goal.returns
returns c = rw (sym c.side_of.ensures ∙ c.if-side_of.false) c.parties_of-2.ensures
