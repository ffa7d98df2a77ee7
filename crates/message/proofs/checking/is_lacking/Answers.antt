-- `message::checking::is_lacking` meets its contract. One law of `CheckLaws` for each way out. Assumes nothing.
use Rattle.message.specs.inner.Facts.{by_tag}
use Rattle.message.proofs.CheckLaws.{not_lacking, lacking_if}
use Rattle.message.proofs.checking.is_lacking.Goals as goal
use borrow.Author.Tests.{ne_eqb}
use mathlib.Core.Path.{◌∙◌}

pub returns-then-at-n-eq0 : goal.returns-then-at-n-eq0
returns-then-at-n-eq0 c = let x = c.args in lacking_if (by_tag x.run) x.k x.at.now x.n c.asks.ensures c.if-at-n-eq0.true

pub returns-else-at-n-eq0 : goal.returns-else-at-n-eq0
returns-else-at-n-eq0 c = let x = c.args in ne_eqb _ _ c.if-at-n-eq0.false ∙ not_lacking (by_tag x.run) x.k x.at.now x.n c.if-at-n-eq0.false
