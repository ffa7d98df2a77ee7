-- One law for each name. Assumes nothing.
use Rattle.showing.proofs.AskLaws.{asks-add, asks_else, asks-positions, asks_read, asks-remove, asks-reply, asks-text}
use Rattle.showing.proofs.ShownLaws.{says}
use Rattle.showing.proofs.asking.ask.Goals as goal
use mathlib.Core.Path.{◌∙◌, sym}

pub returns-then-same : goal.returns-then-same
returns-then-same c =
    let x = c.args in says x.out.now
    (asks_read x.ceiling x.name.now x.words.now (sym c.same.ensures ∙ c.if-same.true))
    c.read.ensures

pub returns-then-same-2 : goal.returns-then-same-2
returns-then-same-2 c =
    let x = c.args in says x.out.now
    (asks-positions x.ceiling x.name.now x.words.now (sym c.same.ensures ∙ c.if-same.false) (sym c.same-2.ensures ∙ c.if-same-2.true))
    c.positions.ensures

pub returns-then-same-3 : goal.returns-then-same-3
returns-then-same-3 c =
    let x = c.args in says x.out.now
    (asks-reply x.ceiling x.name.now x.words.now (sym c.same.ensures ∙ c.if-same.false) (sym c.same-2.ensures ∙ c.if-same-2.false) (sym c.same-3.ensures ∙ c.if-same-3.true))
    c.reply.ensures

pub returns-then-same-4 : goal.returns-then-same-4
returns-then-same-4 c =
    let x = c.args in says x.out.now
    (asks-add x.ceiling x.name.now x.words.now (sym c.same.ensures ∙ c.if-same.false) (sym c.same-2.ensures ∙ c.if-same-2.false) (sym c.same-3.ensures ∙ c.if-same-3.false)
    (sym c.same-4.ensures ∙ c.if-same-4.true))
    c.edit.ensures

pub returns-then-same-5 : goal.returns-then-same-5
returns-then-same-5 c =
    let x = c.args in says x.out.now
    (asks-remove x.ceiling x.name.now x.words.now (sym c.same.ensures ∙ c.if-same.false) (sym c.same-2.ensures ∙ c.if-same-2.false) (sym c.same-3.ensures ∙ c.if-same-3.false)
    (sym c.same-4.ensures ∙ c.if-same-4.false) (sym c.same-5.ensures ∙ c.if-same-5.true))
    c.edit-then-same-5.ensures

pub returns-then-same-6 : goal.returns-then-same-6
returns-then-same-6 c =
    let x = c.args in says x.out.now
    (asks-text x.ceiling x.name.now x.words.now (sym c.same.ensures ∙ c.if-same.false) (sym c.same-2.ensures ∙ c.if-same-2.false) (sym c.same-3.ensures ∙ c.if-same-3.false)
    (sym c.same-4.ensures ∙ c.if-same-4.false) (sym c.same-5.ensures ∙ c.if-same-5.false) (sym c.same-6.ensures ∙ c.if-same-6.true))
    c.text.ensures

pub returns : goal.returns
returns c =
    let x = c.args in says x.out.now
    (asks_else x.ceiling x.name.now x.words.now (sym c.same.ensures ∙ c.if-same.false) (sym c.same-2.ensures ∙ c.if-same-2.false) (sym c.same-3.ensures ∙ c.if-same-3.false)
    (sym c.same-4.ensures ∙ c.if-same-4.false) (sym c.same-5.ensures ∙ c.if-same-5.false) (sym c.same-6.ensures ∙ c.if-same-6.false))
    c.put_unknown.ensures
