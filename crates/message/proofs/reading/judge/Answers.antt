-- `message::reading::judge` meets its contract. By its definition and what the callees ensure. Assumes nothing.
use Prim.Native.Nat.{ℕ}
use Rattle.message.proofs.CheckLaws.{none-missing, refused}
use Rattle.message.proofs.EnvelopeLaws.{asked}
use Rattle.message.proofs.FactLaws.{method-few, setting-tag}
use Rattle.message.proofs.reading.judge.Goals as goal
use Rattle.message.specs.Message.{method_of, first_setting}
use Rattle.message.specs.Reading.{judged}
use Rattle.message.specs.inner.Facts.{FactsOf}
use Rattle.std.specs.Prelude.{Err}
use Rattle.values.specs.Spans.{text_at}
use borrow.Author.Rules.{rules}
use borrow.Author.Tests.{le-ltb, lt-ltb}
use lib.ListN.{get_or}
use mathlib.Core.Bool.{true}
use mathlib.Core.Path.{◌≡◌, subst, sym, ◌∙◌}
use native.Mathlib.Omega.{arith}

pub returns-in_err-check_required : goal.returns-in_err-check_required
unfolding judged
returns-in_err-check_required c =
    let x = c.args in let z : c.from_residual.result ≡ Err c.in_err-check_required.field-0.0 = search rules in
    rw (sym (refused x.s.now true (first_setting x.tag) x.at.now c.in_err-check_required.ensures)) z

pub returns-then-tag-gt-RESPONSE : goal.returns-then-tag-gt-RESPONSE
unfolding judged
returns-then-tag-gt-RESPONSE c =
    let x = c.args in rw (
      (none-missing x.s.now true (first_setting x.tag) x.at.now c.in_ok-check_required.ensures).1,
      lt-ltb _ _ c.if-tag-gt-RESPONSE.true,
    ) c.settle_probe.ensures

pub judge_envelope-requires : goal.judge_envelope-requires
judge_envelope-requires c =
    let x = c.args in (
      asked x.s.now x.at.now x.tag c.requires.0 (omega arith)
          (none-missing x.s.now true (first_setting x.tag) x.at.now c.in_ok-check_required.ensures).0,
      c.requires.1.1,
    )

pub returns-in_err-f : goal.returns-in_err-f
unfolding judged
returns-in_err-f c =
    let x = c.args in let z : c.from_residual-in_err-f.result ≡ Err c.in_err-f.field-0.0 = search rules in
    rw ((none-missing x.s.now true (first_setting x.tag) x.at.now c.in_ok-check_required.ensures).1 ∙ c.in_err-f.ensures) z

pub settle-requires : goal.settle-requires
unfolding method_of
settle-requires c =
    let x = c.args in let k = c.in_ok-f.ensures.1 in
    let e = setting-tag x.s.now x.tag x.at.now c.setting_of.ensures.0 in (
      omega (arith, c.requires.1.0),
      (
        omega (arith, c.setting_of.ensures.1, k.methodic, method-few (text_at x.s.now (get_or x.at.now 1 0))),
        (subst (λ (n : ℕ). FactsOf x.s.now n x.at.now c.in_ok-f.f) (sym e) k, c.requires.1.1),
      ),
    )

pub returns : goal.returns
unfolding judged
returns c =
    let x = c.args in rw (
      (none-missing x.s.now true (first_setting x.tag) x.at.now c.in_ok-check_required.ensures).1 ∙ c.in_ok-f.ensures.0,
      le-ltb _ _ c.if-tag-gt-RESPONSE.false,
    )
    (rw c.setting_of.ensures.0 at c.settle.ensures)
