-- `keeper::tick` meets its contract. An image that is not well-formed is answered at once. Assumes nothing.
use Rattle.keeper.proofs.tick.Goals as goal
use Rattle.keeper.specs.Keeping.{on_tick}
use borrow.Author.Tests.{not-true, not-false}
use mathlib.Core.Path.{refl, sym, ◌∙◌}

pub returns-then-not-well_formed : goal.returns-then-not-well_formed
unfolding on_tick
returns-then-not-well_formed c = rw (sym c.well_formed-2.ensures ∙ not-true _ c.if-not-well_formed.true-raw) (refl, refl)

pub tick_step-requires : goal.tick_step-requires
tick_step-requires c = sym c.well_formed-2.ensures ∙ not-false _ c.if-not-well_formed.false-raw

pub returns : goal.returns
returns c = (c.tick_step.ensures.0, c.tick_step.ensures.1)
