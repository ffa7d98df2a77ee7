-- `particulars::leaves::keeps_text` meets its contract. As it is spelled, and else decoded. Assumes nothing.
use Rattle.escapes.specs.Rfc7159.{text}
use Rattle.particulars.proofs.LeafLaws.{leaf-tried}
use Rattle.particulars.proofs.leaves.keeps_text.Goals as goal
use Rattle.particulars.specs.inner.Telling.{on_text}
use Rattle.values.proofs.ValueLaws.{no-string, string-text}
use borrow.Author.Rules.{rules}
use lib.ListN.{take}
use mathlib.Core.Path.{◌≡◌, sym, ◌∙◌}

pub returns-then-not-is_string : goal.returns-then-not-is_string
returns-then-not-is_string c = no-string (on_text c.args.l) c.args.v.now (sym c.is_string.ensures ∙ c.if-not-is_string.true)

pub returns-then-is_leaf_text : goal.returns-then-is_leaf_text
returns-then-is_leaf_text c =
    let x = c.args in
    string-text (on_text x.l) x.v.now c.is_string.ensures c.own_spelling-w.ensures
    (c.if-is_leaf_text.true ∙ sym ((leaf-tried x.l).own c.own_spelling-w.result.now (sym c.is_leaf_text.ensures ∙ c.if-is_leaf_text.true)))
    (rw c.if-not-is_string.false)

pub returns-else-is_leaf_text : goal.returns-else-is_leaf_text
returns-else-is_leaf_text c =
    let x = c.args in
    let e : c.of_text.result ≡ on_text x.l (take 256 (text c.own_spelling-w.result.now)) = search rules in
    string-text (on_text x.l) x.v.now c.is_string.ensures c.own_spelling-w.ensures
    (e ∙ (leaf-tried x.l).within c.own_spelling-w.result.now)
    (rw c.if-not-is_string.false)
