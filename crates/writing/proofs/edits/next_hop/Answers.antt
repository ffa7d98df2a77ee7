-- `writing::edits::next_hop` meets its contract. Assumes nothing.
use Rattle.writing.proofs.edits.next_hop.Goals as goal
use mathlib.Core.Path.{◌∙◌}

pub returns-in-Ok : goal.returns-in-Ok
returns-in-Ok c = c.part.ensures ∙ rw c.in-Ok.is
