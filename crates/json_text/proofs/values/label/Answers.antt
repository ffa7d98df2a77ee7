-- A name and its colon, with white space around: one law of the machine for each byte on the way to each exit. Assumes nothing.
use Rattle.json_text.proofs.MoveLaws.{short, leaf_is, raised}
use Rattle.json_text.proofs.StepLaws.{ws-name, ws-colon, name-quote, name-miss, colon-hit, colon-miss}
use Rattle.json_text.proofs.TourLaws.{tour-moves, tour-short, spaces, strings, calm-is}
use Rattle.json_text.proofs.values.label.Goals as goal
use Rattle.json_text.specs.inner.Machine.{label, value, name, colon, str, live, dead}
use Rattle.std.specs.Prelude.{Err}
use borrow.Author.Rules.{rules}
use mathlib.Core.Bool.{false}
use mathlib.Core.Path.{refl, sym, ◌∙◌}
use native.Mathlib.Omega.{arith}

pub returns-then-s-i : goal.returns-then-s-i
returns-then-s-i c =
    record {
      low = search rules;
      high = search rules;
      same = λ k n.
          spaces _ _ _ name k n c.past_spaces-i.ensures (ws-name k) (λ b h. refl)
          ∙ tour-short _ _ name k n (search rules) (search rules) (short _ _ name k (search rules) (search rules) refl);
    }

pub returns-then-s-i-ne34 : goal.returns-then-s-i-ne34
returns-then-s-i-ne34 c =
    record {
      low = search rules;
      high = search rules;
      same = λ k n.
          spaces _ _ _ name k n c.past_spaces-i.ensures (ws-name k) (λ b h. refl)
          ∙ tour-moves _ _ name k n false dead (search rules) refl (name-miss k _ (c.past_spaces-i.ensures.stop (search rules)) c.if-s-i-ne34.true);
    }

pub returns-in_err-e : goal.returns-in_err-e
returns-in_err-e c =
    let l = leaf_is c.string.ensures c.in_err-e.was in
    calm-is {r = Err _}
    (record {
      low = omega (arith, l.low);
      high = l.high;
      same = λ k n.
          spaces _ _ _ name k n c.past_spaces-i.ensures (ws-name k) (λ b h. refl)
          ∙ tour-moves _ _ name k n false (live (str label) k) (search rules) refl (name-quote k _ c.if-s-i-ne34.false)
          ∙ strings (search rules) l label k n;
    })
    (sym (raised c.from_residual.ensures.1))

pub past_spaces-j-requires : goal.past_spaces-j-requires
past_spaces-j-requires c = let l = leaf_is c.string.ensures c.in_ok-e.was in l.high

pub returns-then-s-j : goal.returns-then-s-j
returns-then-s-j c =
    let l = leaf_is c.string.ensures c.in_ok-e.was in
    record {
      low = omega (arith, l.low);
      high = search rules;
      same = λ k n.
          spaces _ _ _ name k n c.past_spaces-i.ensures (ws-name k) (λ b h. refl)
          ∙ tour-moves _ _ name k n false (live (str label) k) (search rules) refl (name-quote k _ c.if-s-i-ne34.false)
          ∙ strings (search rules) l label k n
          ∙ spaces _ _ _ colon k n c.past_spaces-j.ensures (ws-colon k) (λ b h. refl)
          ∙ tour-short _ _ colon k n (search rules) (search rules) (short _ _ colon k (search rules) (search rules) refl);
    }

pub returns-then-s-j-eq58 : goal.returns-then-s-j-eq58
returns-then-s-j-eq58 c =
    let l = leaf_is c.string.ensures c.in_ok-e.was in
    record {
      low = omega (arith, l.low);
      high = search rules;
      same = λ k n.
          spaces _ _ _ name k n c.past_spaces-i.ensures (ws-name k) (λ b h. refl)
          ∙ tour-moves _ _ name k n false (live (str label) k) (search rules) refl (name-quote k _ c.if-s-i-ne34.false)
          ∙ strings (search rules) l label k n
          ∙ spaces _ _ _ colon k n c.past_spaces-j.ensures (ws-colon k) (λ b h. refl)
          ∙ tour-moves _ _ colon k n false (live value k) (search rules) refl (colon-hit k _ c.if-s-j-eq58.true);
    }

pub returns : goal.returns
returns c =
    let l = leaf_is c.string.ensures c.in_ok-e.was in
    record {
      low = omega (arith, l.low);
      high = search rules;
      same = λ k n.
          spaces _ _ _ name k n c.past_spaces-i.ensures (ws-name k) (λ b h. refl)
          ∙ tour-moves _ _ name k n false (live (str label) k) (search rules) refl (name-quote k _ c.if-s-i-ne34.false)
          ∙ strings (search rules) l label k n
          ∙ spaces _ _ _ colon k n c.past_spaces-j.ensures (ws-colon k) (λ b h. refl)
          ∙ tour-moves _ _ colon k n false dead (search rules) refl (colon-miss k _ (c.past_spaces-j.ensures.stop (search rules)) c.if-s-j-eq58.false);
    }
