-- `message::envelopes::judge_sent` meets its contract. A field that is kept passes row 9 on, a broken one ends it. Assumes nothing.
use Prim.Native.Nat.{ℕ}
use Rattle.fields.proofs.JudgingLaws.{judged_fault, judged-tells}
use Rattle.message.proofs.CheckLaws.{kept}
use Rattle.message.proofs.EnvelopeLaws.{inside, passing, refusing, sent, via-faults}
use Rattle.message.proofs.envelopes.judge_sent.Goals as goal
use Rattle.message.specs.Message.{first_setting}
use Rattle.message.specs.inner.Facts.{SentSays}
use Rattle.std.specs.Prelude.{Err}
use Rattle.values.proofs.SpellingLaws.{own-bytes}
use Rattle.values.specs.inner.Asked.{Own}
use borrow.Author.Rules.{rules}
use lib.ListN.{get_or}
use mathlib.Core.List.{List}
use mathlib.Core.Path.{◌≡◌, subst, sym, ◌∙◌}
use native.Mathlib.Omega.{arith}

pub value_at-requires : goal.value_at-requires
value_at-requires c = c.requires.1.ends 4

pub judge-requires : goal.judge-requires
judge-requires c =
    (subst (λ (l : List ℕ). Own l) (sym c.value_at.ensures) (own-bytes c.args.s.now (get_or c.args.at.now 4 0)), (omega arith, omega arith))

pub placed-requires : goal.placed-requires
placed-requires c =
    let x = c.args in let k = first_setting x.tag in
    inside x.s.now k x.at.now 4 (omega arith) (omega arith) c.value_at.ensures c.judge.result (λ p e. judged_fault _ k 4 (e ∙ c.judge.ensures)) (omega arith)

pub returns-in_err-placed : goal.returns-in_err-placed
returns-in_err-placed c =
    let x = c.args in let k = first_setting x.tag in
    let z : c.from_residual.result ≡ Err c.in_err-placed.field-0.0 = search rules in
    subst (SentSays x.s.now x.tag x.at.now) (sym z)
    (refusing x.s.now k x.at.now 4 (omega arith) (omega arith) c.value_at.ensures c.judge.result (λ p e. judged_fault _ k 4 (e ∙ c.judge.ensures))
    c.in_err-placed.ensures c.requires.0.four)

pub value_at-requires-2 : goal.value_at-requires-2
value_at-requires-2 c = c.requires.1.ends 5

pub judge-requires-2 : goal.judge-requires-2
judge-requires-2 c =
    (subst (λ (l : List ℕ). Own l) (sym c.value_at-2.ensures) (own-bytes c.args.s.now (get_or c.args.at.now 5 0)), (omega arith, omega arith))

pub placed-requires-2 : goal.placed-requires-2
placed-requires-2 c =
    let x = c.args in let k = first_setting x.tag in
    inside x.s.now k x.at.now 5 (omega arith) (omega arith) c.value_at-2.ensures c.judge-2.result (λ p e. judged_fault _ k 5 (e ∙ c.judge-2.ensures)) (omega arith)

pub returns-in_err-placed-2 : goal.returns-in_err-placed-2
returns-in_err-placed-2 c =
    let x = c.args in let k = first_setting x.tag in
    let d = kept (get_or x.at.now 4 0) c.judge.result c.in_ok-placed.ensures in
    let z : c.from_residual-in_err-placed-2.result ≡ Err c.in_err-placed-2.field-0.0 = search rules in
    subst (SentSays x.s.now x.tag x.at.now) (sym z)
    (passing x.s.now k x.at.now 4 (omega arith) (omega arith) c.value_at.ensures (judged-tells _ k 4 (d ∙ c.judge.ensures))
    ∙ refusing x.s.now k x.at.now 5 (omega arith) (omega arith) c.value_at-2.ensures c.judge-2.result (λ p e. judged_fault _ k 5 (e ∙ c.judge-2.ensures))
    c.in_err-placed-2.ensures c.requires.0.five)

pub value_at-requires-3 : goal.value_at-requires-3
value_at-requires-3 c = c.requires.1.ends 6

pub placed-requires-3 : goal.placed-requires-3
placed-requires-3 c =
    let x = c.args in let k = first_setting x.tag in
    inside x.s.now k x.at.now 6 (omega arith) (omega arith) c.value_at-3.ensures c.judge_via.result (via-faults x.tag _ c.judge_via.ensures) (omega arith)

pub returns : goal.returns
returns c =
    let x = c.args in let k = first_setting x.tag in
    let d = kept (get_or x.at.now 4 0) c.judge.result c.in_ok-placed.ensures in
    let i = kept (get_or x.at.now 5 0) c.judge-2.result c.in_ok-placed-2.ensures in
    sent x.s.now x.at.now c.requires.0
    (passing x.s.now k x.at.now 4 (omega arith) (omega arith) c.value_at.ensures (judged-tells _ k 4 (d ∙ c.judge.ensures))
    ∙ passing x.s.now k x.at.now 5 (omega arith) (omega arith) c.value_at-2.ensures (judged-tells _ k 5 (i ∙ c.judge-2.ensures)))
    c.value_at-3.ensures c.judge_via.result c.judge_via.ensures c.placed-3.ensures
