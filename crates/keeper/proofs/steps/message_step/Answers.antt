-- `keeper::steps::message_step` meets its contract. What was read is put in, and the tag's test. Assumes nothing.
use Rattle.keeper.proofs.steps.message_step.Goals as goal
use Rattle.keeper.specs.Keeping.{on_message}
use Rattle.message.proofs.Accepted.{read_named}
use borrow.Author.Tests.{lt-ltb, le-ltb}
use mathlib.Core.Path.{refl, sym, ◌∙◌}

pub returns-then-m-gt2 : goal.returns-then-m-gt2
unfolding on_message
returns-then-m-gt2 c =
    rw (c.requires, (sym c.read.ensures ∙ c.in-Ok.is), lt-ltb _ _ c.if-m-gt2.true) (refl, refl, refl)

pub ask-requires : goal.ask-requires
ask-requires c =
    (c.requires, read_named _ _ _ (sym c.read.ensures ∙ c.in-Ok.is) c.if-m-gt2.false)

pub returns-in-Err : goal.returns-in-Err
unfolding on_message
returns-in-Err c = rw (c.requires, (sym c.read.ensures ∙ c.in-Err.is)) (rw (c.number.ensures, c.place.ensures), refl, refl)

pub returns-else-m-gt2 : goal.returns-else-m-gt2
unfolding on_message
returns-else-m-gt2 c =
    rw (c.requires, (sym c.read.ensures ∙ c.in-Ok.is), le-ltb _ _ c.if-m-gt2.false) c.ask.ensures
