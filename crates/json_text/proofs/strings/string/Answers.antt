use Rattle.json_text.proofs.MoveLaws.{moves, short, leaf_is, raised}
use Rattle.json_text.proofs.StepLaws.{str-quote, str-back, str_ctl, str-plain, not_plain}
use Rattle.json_text.proofs.strings.string.Goals as goal
use Rattle.json_text.specs.inner.Machine.{str, esc, live, dead, closed}
use Rattle.std.specs.Prelude.{Err}
use borrow.Author.Rules.{rules}
use mathlib.Core.Path.{refl, sym, ◌∙◌}
use native.Mathlib.Omega.{arith}

pub loop-at-init : goal.loop-at-init
loop-at-init c = (search rules, search rules, λ w k. refl)

pub returns-then-s-j : goal.returns-then-s-j
returns-then-s-j c =
    record {
      low = search rules;
      high = search rules;
      same = λ w k.
          c.loop-at.invariant.2 w k
          ∙ c.past_plain-j.ensures.same (str w) k (str-plain w k)
          ∙ short _ _ (str w) k (search rules) (search rules) refl;
    }

pub returns-then-b-eq34 : goal.returns-then-b-eq34
returns-then-b-eq34 c =
    record {
      low = search rules;
      high = search rules;
      same = λ w k.
          c.loop-at.invariant.2 w k
          ∙ c.past_plain-j.ensures.same (str w) k (str-plain w k)
          ∙ moves _ _ (str w) k (live (closed w) k) (search rules) (str-quote w k _ c.if-b-eq34.true);
    }

pub returns-then-b-ne92 : goal.returns-then-b-ne92
returns-then-b-ne92 c =
    record {
      low = search rules;
      high = search rules;
      same = λ w k.
          c.loop-at.invariant.2 w k
          ∙ c.past_plain-j.ensures.same (str w) k (str-plain w k)
          ∙ moves _ _ (str w) k dead (search rules)
          (str_ctl w k _ c.if-b-eq34.false c.if-b-ne92.true (not_plain _ (c.past_plain-j.ensures.stop (search rules)) c.if-b-eq34.false c.if-b-ne92.true));
    }

pub returns-in_err-i : goal.returns-in_err-i
returns-in_err-i c =
    let l = leaf_is c.escaped.ensures c.in_err-i.was in
    leaf_is {r = Err _}
    (record {
      low = omega (arith, l.low);
      high = l.high;
      same = λ w k.
          c.loop-at.invariant.2 w k
          ∙ c.past_plain-j.ensures.same (str w) k (str-plain w k)
          ∙ moves _ _ (str w) k (live (esc w) k) (search rules) (str-back w k _ c.if-b-ne92.false)
          ∙ l.same w k;
    })
    (sym (raised c.from_residual.ensures.1))

pub loop-at-smaller : goal.loop-at-smaller
loop-at-smaller c = let l = leaf_is c.escaped.ensures c.in_ok-i.was in omega (arith, l.low, l.high)

pub loop-at-preserved : goal.loop-at-preserved
loop-at-preserved c =
    let l = leaf_is c.escaped.ensures c.in_ok-i.was in (
      omega (arith, l.low),
      l.high,
      λ w k.
          c.loop-at.invariant.2 w k
          ∙ c.past_plain-j.ensures.same (str w) k (str-plain w k)
          ∙ moves _ _ (str w) k (live (esc w) k) (search rules) (str-back w k _ c.if-b-ne92.false)
          ∙ l.same w k,
    )
