-- `message::envelopes::judge_opening` meets its contract. A field that is kept passes row 9 on, a broken one ends it. Assumes nothing.
use Prim.Native.Nat.{ℕ}
use Rattle.fields.proofs.JudgingLaws.{cseq_fault, cseq-tells, party_fault, party_tells}
use Rattle.fields.specs.Field.{keeps}
use Rattle.message.proofs.CheckLaws.{kept}
use Rattle.message.proofs.EnvelopeLaws.{inside, method-told, number-told, party_told, passing, refusing}
use Rattle.message.proofs.envelopes.judge_opening.Goals as goal
use Rattle.message.specs.Message.{first_setting}
use Rattle.message.specs.inner.Facts.{OpeningSays}
use Rattle.std.specs.Prelude.{Err}
use Rattle.values.proofs.SpellingLaws.{own-bytes}
use Rattle.values.specs.inner.Asked.{Own}
use borrow.Author.Rules.{rules}
use lib.ListN.{get_or}
use mathlib.Core.List.{List}
use mathlib.Core.Path.{◌≡◌, subst, sym, ◌∙◌}
use native.Mathlib.Omega.{arith}

pub value_at-requires : goal.value_at-requires
value_at-requires c = c.requires.1.ends 1

pub judge_cseq-requires : goal.judge_cseq-requires
judge_cseq-requires c =
    subst (λ (l : List ℕ). Own l) (sym c.value_at.ensures) (own-bytes c.args.s.now (get_or c.args.at.now 1 0))

pub placed-requires : goal.placed-requires
unfolding keeps
placed-requires c =
    let x = c.args in let k = first_setting x.tag in
    inside x.s.now k x.at.now 1 (omega arith) (omega arith) c.value_at.ensures c.judge_cseq.result
    (λ p e. cseq_fault _ k (e ∙ c.judge_cseq.ensures)) (omega arith)

pub returns-in_err-cseq : goal.returns-in_err-cseq
unfolding keeps
returns-in_err-cseq c =
    let x = c.args in let k = first_setting x.tag in
    let z : c.from_residual.result ≡ Err c.in_err-cseq.field-0.0 = search rules in
    subst (OpeningSays x.s.now x.tag x.at.now) (sym z)
    (refusing x.s.now k x.at.now 1 (omega arith) (omega arith) c.value_at.ensures c.judge_cseq.result (λ p e. cseq_fault _ k (e ∙ c.judge_cseq.ensures))
    c.in_err-cseq.ensures c.requires.0.one)

pub value_at-requires-2 : goal.value_at-requires-2
value_at-requires-2 c = c.requires.1.ends 2

pub judge_party-requires : goal.judge_party-requires
judge_party-requires c =
    subst (λ (l : List ℕ). Own l) (sym c.value_at-2.ensures) (own-bytes c.args.s.now (get_or c.args.at.now 2 0))

pub placed-requires-2 : goal.placed-requires-2
unfolding keeps
placed-requires-2 c =
    let x = c.args in let k = first_setting x.tag in
    inside x.s.now k x.at.now 2 (omega arith) (omega arith) c.value_at-2.ensures c.judge_party.result
    (λ p e. party_fault _ k 2 (omega arith) (omega arith) (e ∙ c.judge_party.ensures)) (omega arith)

pub returns-in_err-to : goal.returns-in_err-to
unfolding keeps
returns-in_err-to c =
    let x = c.args in let k = first_setting x.tag in
    let q = kept (get_or x.at.now 1 0) c.judge_cseq.result c.in_ok-cseq.ensures ∙ c.judge_cseq.ensures in
    let z : c.from_residual-in_err-to.result ≡ Err c.in_err-to.field-0.0 = search rules in
    subst (OpeningSays x.s.now x.tag x.at.now) (sym z)
    (passing x.s.now k x.at.now 1 (omega arith) (omega arith) c.value_at.ensures (cseq-tells _ q).0
    ∙ refusing x.s.now k x.at.now 2 (omega arith) (omega arith) c.value_at-2.ensures c.judge_party.result
    (λ p e. party_fault _ k 2 (omega arith) (omega arith) (e ∙ c.judge_party.ensures)) c.in_err-to.ensures c.requires.0.two)

pub value_at-requires-3 : goal.value_at-requires-3
value_at-requires-3 c = c.requires.1.ends 3

pub judge_party-requires-2 : goal.judge_party-requires-2
judge_party-requires-2 c =
    subst (λ (l : List ℕ). Own l) (sym c.value_at-3.ensures) (own-bytes c.args.s.now (get_or c.args.at.now 3 0))

pub placed-requires-3 : goal.placed-requires-3
unfolding keeps
placed-requires-3 c =
    let x = c.args in let k = first_setting x.tag in
    inside x.s.now k x.at.now 3 (omega arith) (omega arith) c.value_at-3.ensures c.judge_party-2.result
    (λ p e. party_fault _ k 3 (omega arith) (omega arith) (e ∙ c.judge_party-2.ensures)) (omega arith)

pub returns-in_err-from : goal.returns-in_err-from
unfolding keeps
returns-in_err-from c =
    let x = c.args in let k = first_setting x.tag in
    let q = kept (get_or x.at.now 1 0) c.judge_cseq.result c.in_ok-cseq.ensures ∙ c.judge_cseq.ensures in
    let a = kept (get_or x.at.now 2 0) c.judge_party.result c.in_ok-to.ensures ∙ c.judge_party.ensures in
    let z : c.from_residual-in_err-from.result ≡ Err c.in_err-from.field-0.0 = search rules in
    subst (OpeningSays x.s.now x.tag x.at.now) (sym z)
    (passing x.s.now k x.at.now 1 (omega arith) (omega arith) c.value_at.ensures (cseq-tells _ q).0
    ∙ passing x.s.now k x.at.now 2 (omega arith) (omega arith) c.value_at-2.ensures (party_tells _ a).0
    ∙ refusing x.s.now k x.at.now 3 (omega arith) (omega arith) c.value_at-3.ensures c.judge_party-2.result
    (λ p e. party_fault _ k 3 (omega arith) (omega arith) (e ∙ c.judge_party-2.ensures)) c.in_err-from.ensures c.requires.0.three)

pub returns : goal.returns
unfolding keeps
returns c =
    let x = c.args in let k = first_setting x.tag in
    let q = kept (get_or x.at.now 1 0) c.judge_cseq.result c.in_ok-cseq.ensures ∙ c.judge_cseq.ensures in
    let a = kept (get_or x.at.now 2 0) c.judge_party.result c.in_ok-to.ensures ∙ c.judge_party.ensures in
    let b = kept (get_or x.at.now 3 0) c.judge_party-2.result c.in_ok-from.ensures ∙ c.judge_party-2.ensures in
    let s = x.s.now in let t = x.at.now in (
      passing s k t 1 (omega arith) (omega arith) c.value_at.ensures (cseq-tells _ q).0
          ∙ passing s k t 2 (omega arith) (omega arith) c.value_at-2.ensures (party_tells _ a).0
          ∙ passing s k t 3 (omega arith) (omega arith) c.value_at-3.ensures (party_tells _ b).0,
      (
        number-told s t c.value_at.ensures q,
        (method-told s t c.value_at.ensures q, (party_told s t 2 c.value_at-2.ensures a, party_told s t 3 c.value_at-3.ensures b)),
      ),
    )
