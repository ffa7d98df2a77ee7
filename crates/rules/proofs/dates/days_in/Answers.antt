-- `dates::days_in` meets its contract, way by way. Assumes nothing.
use Rattle.rules.proofs.dates.days_in.Goals as goal
use Rattle.rules.specs.Date.{days, days_in}
use borrow.Author.Tests.{eq-eqb, ne_eqb}
use lib.ListN.{get_or-eq_default}
use mathlib.Core.Path.{◌∙◌, sym}

pub returns-then-is_leap : goal.returns-then-is_leap
unfolding days_in
returns-then-is_leap c = simp (eq-eqb _ _ c.if-m-eq2.true, sym c.is_leap.ensures ∙ c.if-is_leap.true)

pub returns-else-is_leap : goal.returns-else-is_leap
unfolding days_in
returns-else-is_leap c = simp (eq-eqb _ _ c.if-m-eq2.true, sym c.is_leap.ensures ∙ c.if-is_leap.false)

pub returns-then-m-lt13 : goal.returns-then-m-lt13
unfolding days_in
returns-then-m-lt13 c = simp (ne_eqb _ _ c.if-m-eq2.false)

pub returns-else-m-lt13 : goal.returns-else-m-lt13
unfolding days_in
returns-else-m-lt13 c = simp (ne_eqb _ _ c.if-m-eq2.false) (sym (get_or-eq_default days 0 c.if-m-lt13.false))
