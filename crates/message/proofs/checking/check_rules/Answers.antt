-- `message::checking::check_rules` meets its contract. One law of `CheckLaws` for each turn. Assumes nothing.
use Rattle.message.specs.inner.Facts.{by_tag}
use Rattle.message.proofs.CheckLaws.{fault_there, field_fault, field-kept, fits, kept, over, passes, stops, unkept}
use Rattle.message.proofs.checking.check_rules.Goals as goal
use Rattle.std.specs.Prelude.{Err}
use borrow.Author.Rules.{rules}
use lib.ListN.{get_or}
use mathlib.Core.Path.{◌≡◌, ap, refl, sym, ◌∙◌}
use native.Mathlib.Omega.{arith}

pub placed-requires : goal.placed-requires
placed-requires c =
    let x = c.args in let n = c.loop-n.n in
    fits (get_or x.at.now n 0) c.judge_field.result
    (λ p e h.
    let f = field_fault x.s.now (by_tag x.run) x.k x.at.now n (e ∙ c.judge_field.ensures) in
    omega (arith, fault_there x.s.now x.k n (get_or x.at.now n 0) refl f.0 h))

pub returns-in_err-placed : goal.returns-in_err-placed
returns-in_err-placed c =
    let x = c.args in let n = c.loop-n.n in
    let z : c.from_residual.result ≡ Err c.in_err-placed.field-0.0 = search rules in
    let u = unkept (get_or x.at.now n 0) c.judge_field.result (c.in_err-placed.ensures) in
    let f = field_fault x.s.now (by_tag x.run) x.k x.at.now n (u.1.0 ∙ c.judge_field.ensures) in
    z ∙ ap Err u.1.1 ∙ sym (c.loop-n.invariant ∙ stops x.s.now (by_tag x.run) x.k x.at.now n (omega arith) (omega arith) f.0 refl f.1)

pub loop-n-preserved : goal.loop-n-preserved
loop-n-preserved c =
    let x = c.args in let n = c.loop-n.n in
    let e = kept (get_or x.at.now n 0) c.judge_field.result (c.in_ok-placed.ensures) in
    c.loop-n.invariant ∙ passes x.s.now (by_tag x.run) x.k x.at.now n (omega arith)
    (field-kept x.s.now (by_tag x.run) x.k x.at.now n (e ∙ c.judge_field.ensures))

pub returns : goal.returns
returns c = let x = c.args in sym (c.loop-n.invariant ∙ over x.s.now (by_tag x.run) x.k x.at.now c.loop-n.n (omega arith))
