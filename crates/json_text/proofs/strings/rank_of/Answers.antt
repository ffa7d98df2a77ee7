-- By its test. Assumes nothing.
use Rattle.json_text.proofs.strings.rank_of.Goals as goal
use Rattle.json_text.specs.inner.Runs.{rank}
use mathlib.Core.Path.{sym, ◌∙◌}

pub returns-then-is_plain : goal.returns-then-is_plain
unfolding rank
returns-then-is_plain c = simp (sym c.is_plain.ensures ∙ c.if-is_plain.true)

pub returns-else-is_plain : goal.returns-else-is_plain
unfolding rank
returns-else-is_plain c = simp (sym c.is_plain.ensures ∙ c.if-is_plain.false)
