-- An exponent from behind its e: one law of the machine for each byte on the way to each exit. Assumes nothing.
use Rattle.json_text.proofs.LeafLaws.{power-run}
use Rattle.json_text.proofs.MoveLaws.{moves, short}
use Rattle.json_text.proofs.StepLaws.{exp-digit, exp-sign, exp-miss, sign-digit, sign-miss}
use Rattle.json_text.proofs.numbers.power.Goals as goal
use Rattle.json_text.specs.inner.Machine.{exp, sign, power, live, dead}
use borrow.Author.Rules.{rules}
use mathlib.Core.Path.{refl, sym, ◌∙◌}

pub returns-then-s-at : goal.returns-then-s-at
returns-then-s-at c = record { low = search rules; high = search rules; same = λ _ k. short _ _ exp k (search rules) (search rules) refl }

pub returns-then-is_digit : goal.returns-then-is_digit
returns-then-is_digit c =
    record {
      low = search rules;
      high = search rules;
      same = λ _ k.
          moves _ _ exp k (live power k) (search rules) (exp-digit k _ (sym c.is_digit.ensures ∙ c.if-is_digit.true))
          ∙ power-run _ _ _ k c.past_digits.ensures;
    }

pub returns-then-s-j : goal.returns-then-s-j
returns-then-s-j c =
    record {
      low = search rules;
      high = search rules;
      same = λ _ k.
          moves _ _ exp k (live sign k) (search rules)
          (exp-sign k _ (sym c.is_digit.ensures ∙ c.if-is_digit.false)
          (sym c.is_sign.ensures ∙ c.if-is_sign.true))
          ∙ short _ _ sign k (search rules) (search rules) refl;
    }

pub returns-then-is_digit-2 : goal.returns-then-is_digit-2
returns-then-is_digit-2 c =
    record {
      low = search rules;
      high = search rules;
      same = λ _ k.
          moves _ _ exp k (live sign k) (search rules)
          (exp-sign k _ (sym c.is_digit.ensures ∙ c.if-is_digit.false) (sym c.is_sign.ensures ∙ c.if-is_sign.true))
          ∙ moves _ _ sign k (live power k) (search rules) (sign-digit k _ (sym c.is_digit-then-is_sign.ensures ∙ c.if-is_digit-2.true))
          ∙ power-run _ _ _ k c.past_digits-then-is_digit-2.ensures;
    }

pub returns-then-is_sign : goal.returns-then-is_sign
returns-then-is_sign c =
    record {
      low = search rules;
      high = search rules;
      same = λ _ k.
          moves _ _ exp k (live sign k) (search rules)
          (exp-sign k _ (sym c.is_digit.ensures ∙ c.if-is_digit.false) (sym c.is_sign.ensures ∙ c.if-is_sign.true))
          ∙ moves _ _ sign k dead (search rules) (sign-miss k _ (sym c.is_digit-then-is_sign.ensures ∙ c.if-is_digit-2.false));
    }

pub returns : goal.returns
returns c =
    record {
      low = search rules;
      high = search rules;
      same = λ _ k.
          moves _ _ exp k dead (search rules)
          (exp-miss k _ (sym c.is_digit.ensures ∙ c.if-is_digit.false) (sym c.is_sign.ensures ∙ c.if-is_sign.false));
    }
