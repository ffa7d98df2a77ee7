-- The end of a number, or its fraction and its exponent. Assumes nothing.
use Rattle.json_text.proofs.MoveLaws.{moves, short, as_good}
use Rattle.json_text.proofs.StepLaws.{point-dot, point-rest, dot-digit, dot-miss, frac-digit, frac-rest}
use Rattle.json_text.proofs.numbers.fraction.Goals as goal
use Rattle.json_text.specs.inner.Machine.{after, dot, frac, live, dead}
use borrow.Author.Rules.{rules}
use mathlib.Core.Path.{refl, sym, ◌∙◌}
use native.Mathlib.Omega.{arith}

pub returns-then-s-at : goal.returns-then-s-at
returns-then-s-at c = record { low = search rules; high = search rules; same = λ m k o f. as_good _ _ m after k (search rules) o (λ h. absurd (omega arith)) }

pub returns-then-s-j : goal.returns-then-s-j
returns-then-s-j c =
    record {
      low = search rules;
      high = search rules;
      same = λ m k o f.
          moves _ _ m k (live dot k) (search rules) (f (search rules) ∙ point-dot k _ c.if-s-at-eq46.true)
          ∙ short _ _ dot k (search rules) (search rules) refl;
    }

pub returns-then-is_digit : goal.returns-then-is_digit
returns-then-is_digit c =
    record {
      low = omega (arith, c.exponent.ensures.low);
      high = c.exponent.ensures.high;
      same = λ m k o f.
          moves _ _ m k (live dot k) (search rules) (f (search rules) ∙ point-dot k _ c.if-s-at-eq46.true)
          ∙ moves _ _ dot k (live frac k) (search rules) (dot-digit k _ (sym c.is_digit.ensures ∙ c.if-is_digit.true))
          ∙ c.past_digits-e.ensures.same frac k (frac-digit k)
          ∙ c.exponent.ensures.same frac k refl (λ h. frac-rest k _ (c.past_digits-e.ensures.stop h));
    }

pub returns-then-s-at-eq46 : goal.returns-then-s-at-eq46
returns-then-s-at-eq46 c =
    record {
      low = search rules;
      high = search rules;
      same = λ m k o f.
          moves _ _ m k (live dot k) (search rules) (f (search rules) ∙ point-dot k _ c.if-s-at-eq46.true)
          ∙ moves _ _ dot k dead (search rules) (dot-miss k _ (sym c.is_digit.ensures ∙ c.if-is_digit.false));
    }

pub returns : goal.returns
returns c =
    record {
      low = omega (arith, c.exponent-2.ensures.low);
      high = c.exponent-2.ensures.high;
      same = λ m k o f. c.exponent-2.ensures.same m k o (λ h. f h ∙ point-rest k _ c.if-s-at-eq46.false);
    }
