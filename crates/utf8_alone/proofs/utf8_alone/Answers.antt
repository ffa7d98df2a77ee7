-- `utf8_alone::utf8_alone` meets its contract. Each arm puts in the verdict. Assumes nothing.
use Rattle.utf8_alone.proofs.utf8_alone.Goals as goal
use mathlib.Core.Path.{sym, ◌∙◌}

pub returns-in-Ok : goal.returns-in-Ok
returns-in-Ok c = rw (sym c.check.ensures ∙ c.in-Ok.is)

pub returns-in-Err : goal.returns-in-Err
returns-in-Err c = rw (sym c.check.ensures ∙ c.in-Err.is)
