-- `keeper::message` meets its contract. An image that is not well-formed is answered at once. Assumes nothing.
use Rattle.keeper.proofs.message.Goals as goal
use Rattle.keeper.specs.Keeping.{on_message}
use borrow.Author.Tests.{not-true, not-false}
use mathlib.Core.Path.{refl, sym, ◌∙◌}

pub returns-then-not-well_formed : goal.returns-then-not-well_formed
unfolding on_message
returns-then-not-well_formed c = rw (sym c.well_formed-2.ensures ∙ not-true _ c.if-not-well_formed.true-raw) (refl, refl)

pub message_step-requires : goal.message_step-requires
message_step-requires c = sym c.well_formed-2.ensures ∙ not-false _ c.if-not-well_formed.false-raw

pub returns : goal.returns
returns c = (c.message_step.ensures.0, c.message_step.ensures.1)
