-- What follows a backslash: one law of the machine for each exit. Assumes nothing.
use Rattle.json_text.proofs.MoveLaws.{moves, short}
use Rattle.json_text.proofs.StepLaws.{esc-hit, esc-u, esc-miss}
use Rattle.json_text.proofs.strings.escaped.Goals as goal
use Rattle.json_text.specs.inner.Machine.{str, esc, live, dead, hexes}
use borrow.Author.Rules.{rules}
use mathlib.Core.Path.{refl, sym, ◌∙◌}
use native.Mathlib.Omega.{arith}

pub returns-then-s-at : goal.returns-then-s-at
returns-then-s-at c = record { low = search rules; high = search rules; same = λ w k. short _ _ (esc w) k (search rules) (search rules) refl }

pub returns-then-is_escaped : goal.returns-then-is_escaped
returns-then-is_escaped c =
    record {
      low = search rules;
      high = search rules;
      same = λ w k.
          moves _ _ (esc w) k (live (str w) k) (search rules) (esc-hit w k _ (sym c.is_escaped.ensures ∙ c.if-is_escaped.true));
    }

pub returns-then-b-eq117 : goal.returns-then-b-eq117
returns-then-b-eq117 c =
    record {
      low = omega (arith, c.four_hex.ensures.low);
      high = c.four_hex.ensures.high;
      same = λ w k.
          moves _ _ (esc w) k (live (hexes w 4) k) (search rules) (esc-u w k _ c.if-b-eq117.true)
          ∙ c.four_hex.ensures.same w k;
    }

pub returns : goal.returns
returns c =
    record {
      low = search rules;
      high = search rules;
      same = λ w k.
          moves _ _ (esc w) k dead (search rules) (esc-miss w k _ (sym c.is_escaped.ensures ∙ c.if-is_escaped.false) c.if-b-eq117.false);
    }
