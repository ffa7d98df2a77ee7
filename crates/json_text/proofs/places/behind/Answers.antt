-- One law for each of the four kinds of what stands at a. Assumes nothing.
use Rattle.json_text.proofs.PlaceLaws as laws
use Rattle.json_text.proofs.places.behind.Goals as goal
use mathlib.Core.Path.{sym, ◌∙◌}
use native.Mathlib.Omega.{arith}

pub returns-then-s-a : goal.returns-then-s-a
returns-then-s-a c = let l = c.args in laws.behind-outside l.s.now l.a c.if-s-a.true

pub returns-then-b-eq34 : goal.returns-then-b-eq34
returns-then-b-eq34 c = let l = c.args in
    record { is = c.string_end.ensures.0 ∙ sym (laws.behind-string l.s.now l.a (omega arith) c.if-b-eq34.true); low = omega arith; inner = λ h. omega arith }

pub returns-then-is_open : goal.returns-then-is_open
returns-then-is_open c = let l = c.args in
    record {
      is = c.nest_end.ensures.0
          ∙ sym (laws.behind_nest l.s.now l.a (omega arith) c.if-b-eq34.false (sym c.is_open.ensures ∙ c.if-is_open.true));
      low = omega arith;
      inner = λ h. omega arith;
    }

pub returns : goal.returns
returns c = let l = c.args in
    record {
      is = c.plain_end.ensures.0
          ∙ sym (laws.behind-plain l.s.now l.a (omega arith) c.if-b-eq34.false (sym c.is_open.ensures ∙ c.if-is_open.false));
      low = omega arith;
      inner = λ h. omega arith;
    }
