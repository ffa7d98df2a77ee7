-- `values::spans::spelling_span` meets its contract. By its definition and what the callees ensure. Assumes nothing.
use Rattle.values.proofs.spans.spelling_span.Goals as goal
use Rattle.values.specs.Spans.{spelling_span}
use borrow.Author.Tests.{le-ltb, lt-ltb}

pub returns-then-s-v : goal.returns-then-s-v
unfolding spelling_span
returns-then-s-v c = rw (le-ltb _ _ c.if-s-v.true)

pub returns : goal.returns
unfolding spelling_span
returns c = rw (lt-ltb _ _ c.if-s-v.false, ← c.spelling_at-t.ensures)
