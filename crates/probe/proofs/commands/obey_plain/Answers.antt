-- One law for each name. Assumes nothing.
use Rattle.probe.proofs.CommandLaws.{does, does_ask, does-blank, does_msg, does-table, does-tick}
use Rattle.probe.proofs.TableLaws.{turns}
use Rattle.probe.proofs.commands.obey_plain.Goals as goal
use Rattle.showing.specs.Asked.{asked_text}
use lib.ListN.{take}
use mathlib.Core.Path.{◌∙◌, refl, sym}

pub returns-then-same : goal.returns-then-same
returns-then-same c =
    let x = c.args in
    does x.out.now (does_msg x.ceiling (take x.size x.held.now) x.name.now x.words.now
    (sym c.same.ensures ∙ c.if-same.true)) c.happen.ensures

pub returns-then-same-2 : goal.returns-then-same-2
returns-then-same-2 c =
    let x = c.args in
    does x.out.now (does-tick x.ceiling (take x.size x.held.now) x.name.now x.words.now
    (sym c.same.ensures ∙ c.if-same.false)
    (sym c.same-2.ensures ∙ c.if-same-2.true)) c.happen-then-same-2.ensures

pub returns-then-same-3 : goal.returns-then-same-3
returns-then-same-3 c =
    let x = c.args in
    does x.out.now (does-blank x.ceiling (take x.size x.held.now) x.name.now x.words.now
    (sym c.same.ensures
    ∙ c.if-same.false)
    (sym c.same-2.ensures ∙ c.if-same-2.false)
    (sym c.same-3.ensures ∙ c.if-same-3.true)) c.blank.ensures

pub returns-then-same-4 : goal.returns-then-same-4
returns-then-same-4 c =
    let x = c.args in
    does x.out.now (does-table x.ceiling (take x.size x.held.now) x.name.now x.words.now
    (sym c.same.ensures
    ∙ c.if-same.false)
    (sym c.same-2.ensures
    ∙ c.if-same-2.false)
    (sym c.same-3.ensures ∙ c.if-same-3.false)
    (sym c.same-4.ensures ∙ c.if-same-4.true)) c.hold.ensures

pub returns : goal.returns
returns c =
    let x = c.args in
    let t = take x.size x.held.now in
    turns x.out.now x.size x.held.now t (asked_text x.ceiling x.name.now x.words.now)
    (does_ask x.ceiling t x.name.now x.words.now
    (sym c.same.ensures
    ∙ c.if-same.false)
    (sym c.same-2.ensures
    ∙ c.if-same-2.false)
    (sym c.same-3.ensures ∙ c.if-same-3.false)
    (sym c.same-4.ensures ∙ c.if-same-4.false)) c.ask.ensures refl
    c.requires.0
