-- `fields::judging::judge_party` meets its contract. One law of `JudgingLaws` for each way out. Assumes nothing.
use Prim.Native.Nat.{◌+◌}
use Rattle.escapes.specs.Placing.{place_of}
use Rattle.escapes.specs.Rfc7159.{text}
use Rattle.fields.proofs.JudgingLaws.{party_untold, party_kept, party_broken}
use Rattle.fields.proofs.judging.judge_party.Goals as goal
use Rattle.fields.specs.Field.{letter_reach}
use Rattle.values.proofs.SpelledLaws.{err_told, or_told}
use borrow.Author.Rules.{rules}
use mathlib.Core.Path.{◌≡◌, refl, sym, ◌∙◌}

pub returns-then-not-is_string : goal.returns-then-not-is_string
returns-then-not-is_string c = party_untold c.args.v.now _ refl c.is_string.ensures
    (c.if-not-is_string.true)

pub returns : goal.returns
returns c =
    let v = c.args.v.now in
    let w = c.own_spelling-w in
    let s = c.is_string.ensures in
    let e = c.if-not-is_string.false in
    or_told c.address_of.result c.ok_or_else.ensures.cases
    (λ n h. err_told c.ok_or_else.result h (λ p q l.
    let place : p ≡ 1 + place_of w.result.now (letter_reach 2 (text w.result.now)) = search rules in
    q ∙ party_broken v _ w.ensures s e (sym n ∙ c.address_of.ensures) place))
    (λ x t h. h ∙ party_kept v _ w.ensures s e (sym t ∙ c.address_of.ensures))
