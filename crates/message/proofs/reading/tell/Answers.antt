-- `message::reading::tell` meets its contract. One walk, or each exit puts in what led there. Assumes nothing.
use Rattle.json_text.proofs.VerdictLaws.{verdict-answer}
use Rattle.message.proofs.WalkLaws.{usual-few, usual-some, usual-ends, usual-room, usual-read}
use Rattle.message.proofs.reading.tell.Goals as goal
use Rattle.message.specs.Reading.{on_json, uncounted}
use Rattle.message.specs.Refusal.{Reading}
use mathlib.Core.Path.{sym, ap, ◌∙◌}

pub judge-requires : goal.judge-requires
judge-requires c = let u = c.in-Some.ensures in (usual-some u, (usual-few u, usual-ends u))

pub overflow_sub-result : goal.overflow_sub-result
overflow_sub-result c = usual-room c.in-Some.ensures

pub returns-in-Some : goal.returns-in-Some
returns-in-Some c = usual-read c.in-Some.ensures c.judge.ensures

pub returns-in-Err : goal.returns-in-Err
returns-in-Err c = let x = c.args in
    c.uncounted.ensures ∙ ap uncounted c.from.ensures ∙ sym (ap (on_json x.s.now) (sym (verdict-answer x.ceiling x.s.now _ c.read.ensures) ∙ c.in-Err.is))

pub returns-in-Ok : goal.returns-in-Ok
returns-in-Ok c = let x = c.args in
    ap (λ (y : Reading). record { reading = y; count = c.in-Ok.n }) c.shape.ensures
    ∙ sym (ap (on_json x.s.now) (sym (verdict-answer x.ceiling x.s.now _ c.read.ensures) ∙ c.in-Ok.is))
