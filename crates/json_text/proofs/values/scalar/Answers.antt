-- A literal name or a number: by its first byte. Assumes nothing.
use Rattle.json_text.proofs.MoveLaws.{moves, alike}
use Rattle.json_text.proofs.StepLaws.{value-t, value-f, value-n, value-minus, value-rest}
use Rattle.json_text.proofs.values.scalar.Goals as goal
use Rattle.json_text.specs.inner.Machine.{label, value, minus, live, due}
use borrow.Author.Rules.{rules}
use mathlib.Core.List.{[], ◌∷◌}
use mathlib.Core.Path.{◌∙◌}
use native.Mathlib.Omega.{arith}

pub returns-then-b-eq116 : goal.returns-then-b-eq116
returns-then-b-eq116 c =
    record {
      low = omega (arith, c.literal.ensures.low);
      high = c.literal.ensures.high;
      same = λ _ k.
          moves _ _ value k (live (due (114 ∷ 117 ∷ 101 ∷ [])) k) (search rules) (value-t k _ c.if-b-eq116.true)
          ∙ c.literal.ensures.same label k;
    }

pub returns-then-b-eq102 : goal.returns-then-b-eq102
returns-then-b-eq102 c =
    record {
      low = omega (arith, c.literal-then-b-eq102.ensures.low);
      high = c.literal-then-b-eq102.ensures.high;
      same = λ _ k.
          moves _ _ value k (live (due (97 ∷ 108 ∷ 115 ∷ 101 ∷ [])) k) (search rules) (value-f k _ c.if-b-eq102.true)
          ∙ c.literal-then-b-eq102.ensures.same label k;
    }

pub returns-then-b-eq110 : goal.returns-then-b-eq110
returns-then-b-eq110 c =
    record {
      low = omega (arith, c.literal-then-b-eq110.ensures.low);
      high = c.literal-then-b-eq110.ensures.high;
      same = λ _ k.
          moves _ _ value k (live (due (117 ∷ 108 ∷ 108 ∷ [])) k) (search rules) (value-n k _ c.if-b-eq110.true)
          ∙ c.literal-then-b-eq110.ensures.same label k;
    }

pub returns-then-b-eq45 : goal.returns-then-b-eq45
returns-then-b-eq45 c =
    record {
      low = omega (arith, c.unsigned.ensures.low);
      high = c.unsigned.ensures.high;
      same = λ _ k.
          moves _ _ value k (live minus k) (search rules) (value-minus k _ c.if-b-eq45.true)
          ∙ c.unsigned.ensures.same label k;
    }

pub returns : goal.returns
returns c =
    record {
      low = c.unsigned-2.ensures.low;
      high = c.unsigned-2.ensures.high;
      same = λ _ k.
          let p = c.requires in
          alike _ _ value minus k p.inside
          (value-rest k _ p.no_space p.no-quote p.no-array p.no-object c.if-b-eq116.false c.if-b-eq102.false c.if-b-eq110.false
          c.if-b-eq45.false)
          ∙ c.unsigned-2.ensures.same label k;
    }
