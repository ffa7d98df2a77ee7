-- `keeper::steps::tick_step` meets its contract. The test of the Call-ID is put in. Assumes nothing.
use Rattle.keeper.proofs.steps.tick_step.Goals as goal
use Rattle.keeper.specs.Keeping.{on_tick}
use borrow.Author.Tests.{not-true, not-false}
use mathlib.Core.Path.{refl, sym, ◌∙◌}

pub returns-then-not-is_call_id : goal.returns-then-not-is_call_id
unfolding on_tick
returns-then-not-is_call_id c = rw (c.requires, sym c.is_call_id.ensures ∙ not-true _ c.if-not-is_call_id.true-raw) (refl, refl, refl)

pub returns : goal.returns
unfolding on_tick
returns c =
    rw (c.requires, sym c.is_call_id.ensures ∙ not-false _ c.if-not-is_call_id.false-raw) c.ticked.ensures
