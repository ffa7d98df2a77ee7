-- A number, its minus sign aside: a 0 and what may follow it, or digits and what may follow them. Assumes nothing.
use Rattle.json_text.proofs.MoveLaws.{moves, short}
use Rattle.json_text.proofs.StepLaws.{int-digit, int-rest, nought-rest, minus-zero, minus-digit, minus-miss}
use Rattle.json_text.proofs.numbers.unsigned.Goals as goal
use Rattle.json_text.specs.inner.Machine.{minus, nought, int, live, dead}
use borrow.Author.Rules.{rules}
use mathlib.Core.Path.{refl, sym, ◌∙◌}
use native.Mathlib.Omega.{arith}

pub returns-then-s-at : goal.returns-then-s-at
returns-then-s-at c = record { low = search rules; high = search rules; same = λ _ k. short _ _ minus k (search rules) (search rules) refl }

pub returns-then-b-eq48 : goal.returns-then-b-eq48
returns-then-b-eq48 c =
    record {
      low = omega (arith, c.fraction.ensures.low);
      high = c.fraction.ensures.high;
      same = λ _ k.
          moves _ _ minus k (live nought k) (search rules) (minus-zero k _ c.if-b-eq48.true)
          ∙ c.fraction.ensures.same nought k refl (λ h. nought-rest k _);
    }

pub returns-then-is_digit : goal.returns-then-is_digit
returns-then-is_digit c =
    record {
      low = omega (arith, c.fraction-then-is_digit.ensures.low);
      high = c.fraction-then-is_digit.ensures.high;
      same = λ _ k.
          moves _ _ minus k (live int k) (search rules)
          (minus-digit k _ c.if-b-eq48.false (sym c.is_digit.ensures ∙ c.if-is_digit.true))
          ∙ c.past_digits-e.ensures.same int k (int-digit k)
          ∙ c.fraction-then-is_digit.ensures.same int k refl (λ h. int-rest k _ (c.past_digits-e.ensures.stop h));
    }

pub returns : goal.returns
returns c =
    record {
      low = search rules;
      high = search rules;
      same = λ _ k.
          moves _ _ minus k dead (search rules) (minus-miss k _ c.if-b-eq48.false (sym c.is_digit.ensures ∙ c.if-is_digit.false));
    }
