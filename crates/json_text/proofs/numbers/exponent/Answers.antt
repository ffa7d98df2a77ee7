-- The end of a number or its exponent: where neither e stands, the machine goes on as after a value. Assumes nothing.
use Rattle.json_text.proofs.MoveLaws.{moves, as_good}
use Rattle.json_text.proofs.StepLaws.{expo-e, expo-E, expo-rest}
use Rattle.json_text.proofs.numbers.exponent.Goals as goal
use Rattle.json_text.specs.inner.Machine.{label, after, exp, live}
use borrow.Author.Rules.{rules}
use mathlib.Core.Path.{◌∙◌}
use native.Mathlib.Omega.{arith}

pub returns-then-s-at : goal.returns-then-s-at
returns-then-s-at c = record { low = search rules; high = search rules; same = λ m k o f. as_good _ _ m after k (search rules) o (λ h. absurd (omega arith)) }

pub returns-then-b-eq101 : goal.returns-then-b-eq101
returns-then-b-eq101 c =
    record {
      low = omega (arith, c.power.ensures.low);
      high = c.power.ensures.high;
      same = λ m k o f.
          moves _ _ m k (live exp k) (search rules) (f (search rules) ∙ expo-e k _ c.if-b-eq101.true)
          ∙ c.power.ensures.same label k;
    }

pub returns-then-b-eq69 : goal.returns-then-b-eq69
returns-then-b-eq69 c =
    record {
      low = omega (arith, c.power-then-b-eq69.ensures.low);
      high = c.power-then-b-eq69.ensures.high;
      same = λ m k o f.
          moves _ _ m k (live exp k) (search rules) (f (search rules) ∙ expo-E k _ c.if-b-eq69.true)
          ∙ c.power-then-b-eq69.ensures.same label k;
    }

pub returns : goal.returns
returns c =
    record {
      low = search rules;
      high = search rules;
      same = λ m k o f.
          as_good _ _ m after k (search rules) o (λ h. f h ∙ expo-rest k _ c.if-b-eq101.false c.if-b-eq69.false);
    }
