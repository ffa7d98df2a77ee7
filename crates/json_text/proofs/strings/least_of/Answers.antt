-- By its test. Assumes nothing.
use Rattle.json_text.proofs.strings.least_of.Goals as goal
use Rattle.json_text.specs.inner.Runs.{least}
use borrow.Author.Tests.{lt-ltb, le-ltb}

pub returns-then-b-a : goal.returns-then-b-a
unfolding least
returns-then-b-a c = simp (lt-ltb _ _ c.if-b-a.true)

pub returns-else-b-a : goal.returns-else-b-a
unfolding least
returns-else-b-a c = simp (le-ltb _ _ c.if-b-a.false)
