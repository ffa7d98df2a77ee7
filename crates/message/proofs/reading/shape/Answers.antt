-- `message::reading::shape` meets its contract. By its definition and what the callees ensure. Assumes nothing.
use Rattle.fields.proofs.GatherLaws.{ended-none}
use Rattle.message.proofs.ReadingLaws.{a-shape, no-shape, name_twice, each-once}
use Rattle.message.proofs.reading.shape.Goals as goal
use Rattle.std.specs.Prelude.{Err}
use borrow.Author.Rules.{rules}
use mathlib.Core.Path.{◌≡◌, ◌∙◌}

pub returns-in_err-f : goal.returns-in_err-f
returns-in_err-f c =
    let z : c.from_residual.result ≡ Err c.in_err-f.field-0.0 = search rules in
    z ∙ no-shape c.args.s.now c.shape_of.result c.shape_of.ensures c.in_err-f.ensures.value

pub gather-requires : goal.gather-requires
gather-requires c = (a-shape c.args.s.now c.shape_of.result c.shape_of.ensures c.in_ok-f.ensures.value).1.inside

pub returns-in_err-at : goal.returns-in_err-at
returns-in_err-at c =
    let f = a-shape c.args.s.now c.shape_of.result c.shape_of.ensures c.in_ok-f.ensures.value in
    let z : c.from_residual-in_err-at.result ≡ Err c.in_err-at.field-0.0 = search rules in
    z ∙ name_twice c.args.s.now f.0 f.1 c.in_err-at.ensures

pub judge-requires : goal.judge-requires
judge-requires c =
    let f = a-shape c.args.s.now c.shape_of.result c.shape_of.ensures c.in_ok-f.ensures.value in
    (f.0, (f.1.few, ended-none c.args.s.now c.in_ok-at.at))

pub returns : goal.returns
returns c =
    let f = a-shape c.args.s.now c.shape_of.result c.shape_of.ensures c.in_ok-f.ensures.value in
    c.judge.ensures ∙ each-once c.args.s.now f.0 f.1 c.in_ok-at.ensures
