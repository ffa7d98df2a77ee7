-- `fields::judging::keeps_text` meets its contract. As it is spelled, and else decoded. Assumes nothing.
use Rattle.fields.proofs.TriedLaws.{text_tried}
use Rattle.values.proofs.ValueLaws.{string-text, no-string}
use Rattle.fields.proofs.judging.keeps_text.Goals as goal
use Rattle.fields.specs.inner.Chain.{on_text}
use Rattle.escapes.specs.Rfc7159.{text}
use borrow.Author.Rules.{rules}
use lib.ListN.{take}
use mathlib.Core.Path.{◌≡◌}
use mathlib.Core.Path.{sym, ◌∙◌}

pub returns-then-not-is_string : goal.returns-then-not-is_string
returns-then-not-is_string c = let x = c.args in no-string (on_text x.k x.n) x.v.now (sym c.is_string.ensures ∙ c.if-not-is_string.true)

pub returns-then-is_text : goal.returns-then-is_text
returns-then-is_text c =
    let x = c.args in
    string-text (on_text x.k x.n) x.v.now c.is_string.ensures c.own_spelling-w.ensures
    (c.if-is_text.true ∙ sym ((text_tried x.k x.n).own c.own_spelling-w.result.now (sym c.is_text.ensures ∙ c.if-is_text.true)))
    (rw c.if-not-is_string.false)

pub returns-else-is_text : goal.returns-else-is_text
returns-else-is_text c =
    let x = c.args in
    let e : c.of_text.result ≡ on_text x.k x.n (take 256 (text c.own_spelling-w.result.now)) = search rules in
    string-text (on_text x.k x.n) x.v.now c.is_string.ensures c.own_spelling-w.ensures
    (e ∙ (text_tried x.k x.n).within c.own_spelling-w.result.now)
    (rw c.if-not-is_string.false)
