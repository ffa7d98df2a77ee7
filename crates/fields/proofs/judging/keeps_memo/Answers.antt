-- `fields::judging::keeps_memo` meets its contract. By its text where it has no escape, and else by its measure. Assumes nothing.
use Rattle.fields.proofs.judging.keeps_memo.Goals as goal
use Rattle.fields.proofs.judging.keeps_memo.Goals.{then-not-m, else-not-m}
use Rattle.values.proofs.ValueLaws.{measured-memo, no-memo, plain-memo}
use mathlib.Core.Path.{sym, ◌∙◌}

pub returns-then-not-is_string : goal.returns-then-not-is_string
returns-then-not-is_string c = no-memo c.args.v.now (sym c.is_string.ensures ∙ c.if-not-is_string.true)

pub returns-then-not-is_escaped : goal.returns-then-not-is_escaped
returns-then-not-is_escaped c =
    c.is_memo.ensures
    ∙ plain-memo c.args.v.now (sym c.is_string.ensures ∙ c.if-not-is_string.false) c.own_spelling-w.ensures
    (sym c.is_escaped.ensures ∙ c.if-not-is_escaped.true)

pub returns-then-not-m-2 : goal.returns-then-not-m-2
returns-then-not-m-2 c =
    let e = measured-memo c.args.v.now (sym c.is_string.ensures ∙ c.if-not-is_string.false) c.own_spelling-w.ensures c.measure-m.ensures in
    elim c.if-not-m.branch [
      | then-not-m w ↦ rw (e, w.if-not-m.true, sym w.value-is ∙ c.if-not-m-2.true)
      | else-not-m w ↦ cc
    ]

pub returns-else-not-m-2 : goal.returns-else-not-m-2
returns-else-not-m-2 c =
    let e = measured-memo c.args.v.now (sym c.is_string.ensures ∙ c.if-not-is_string.false) c.own_spelling-w.ensures c.measure-m.ensures in
    elim c.if-not-m.branch [
      | then-not-m w ↦ rw (c.if-not-m-2.false, e, w.if-not-m.true, sym w.value-is ∙ c.if-not-m-2.false)
      | else-not-m w ↦ rw (c.if-not-m-2.false, e, w.if-not-m.false)
    ]
