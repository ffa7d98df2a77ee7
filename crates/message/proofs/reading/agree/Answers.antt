-- `message::reading::agree` meets its contract. By its definition and what the callees ensure. Assumes nothing.
use Rattle.message.proofs.reading.agree.Goals as goal
use Rattle.message.specs.Reading.{agreed}
use Rattle.std.specs.Prelude.{Ok}
use mathlib.Core.Path.{sym, ap, ◌∙◌}

pub returns-then-disagree : goal.returns-then-disagree
unfolding agreed
returns-then-disagree c = rw (sym c.disagree.ensures ∙ c.if-disagree.true)

pub returns : goal.returns
unfolding agreed
returns c = rw (sym c.disagree.ensures ∙ c.if-disagree.false) (ap Ok c.message_of.ensures)
