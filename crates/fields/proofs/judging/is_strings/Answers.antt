use Prim.Native.Nat.{ℕ, ◌+◌, ◌-◌}
use lib.ListN.{length}
use Rattle.fields.proofs.FieldLaws.{quotes, not_list, empty_list, list_from, every_more, every-none, every-stops}
use Rattle.values.proofs.ValueLaws.{array-there}
use Rattle.fields.proofs.judging.is_strings.Goals as goal
use Rattle.json_text.proofs.TurnLaws.{one_element, no_element, comma, no-comma}
use Rattle.json_text.specs.Places.{elements_from}
use Rattle.octets.proofs.TextLaws.{there}
use Rattle.octets.specs.Class.{all}
use borrow.Author.Rules.{rules}
use borrow.Author.Tests.{eq-eqb, ne_eqb}
use mathlib.Core.Path.{◌≡◌, sym, ap, ◌∙◌}
use native.Mathlib.Omega.{arith}

pub returns-then-not-is_array : goal.returns-then-not-is_array
returns-then-not-is_array c = not_list c.args.v.now (sym c.is_array.ensures ∙ c.if-not-is_array.true)

pub returns-then-byte-eq93 : goal.returns-then-byte-eq93
returns-then-byte-eq93 c =
    empty_list c.args.v.now (sym c.is_array.ensures ∙ c.if-not-is_array.false)
    c.skip.ensures.is (sym c.byte.ensures ∙ c.if-byte-eq93.true)

pub loop-init : goal.loop-init
loop-init c =
    let v = c.args.v.now in
    let e = sym c.is_array.ensures ∙ c.if-not-is_array.false in
    let h = array-there v e in
    (omega arith, (search rules, list_from v e c.skip.ensures.is (omega arith) (λ f. c.if-byte-eq93.false (c.byte.ensures ∙ f))))

pub returns-then-byte-ne34 : goal.returns-then-byte-ne34
returns-then-byte-ne34 c =
    let x = c.args in
    let v = x.v.now in
    let q = c.skip-q.result in
    let one = one_element v (length c.args.v.now - c.loop.counter) c.loop.p (omega arith) c.skip-q.ensures.is in
    sym (c.loop.invariant.1.1 ∙ ap (all (quotes v)) one ∙ every-stops (quotes v) v q _ (ne_eqb _ _ (λ f. c.if-byte-ne34.true (c.byte-in-loop.ensures ∙ f))))

pub returns-then-byte-ne44 : goal.returns-then-byte-ne44
returns-then-byte-ne44 c =
    let x = c.args in
    let v = x.v.now in
    let q = c.skip-q.result in
    let one = one_element v (length c.args.v.now - c.loop.counter) c.loop.p (omega arith) c.skip-q.ensures.is in
    let e = c.element_at-then.ensures in
    let string = eq-eqb _ _ (sym c.byte-in-loop.ensures ∙ c.if-byte-ne34.false) in
    let none = no-comma v (elements_from (length v - c.loop.counter - 1) v) q e.goes.is (λ f. c.if-byte-ne44.true (c.byte-in-loop-2.ensures ∙ f)) in
    sym (c.loop.invariant.1.1 ∙ ap (all (quotes v)) one ∙ every_more (quotes v) v q _ string ∙ ap (all (quotes v)) none ∙ every-none (quotes v))

pub overflow_add-p : goal.overflow_add-p
overflow_add-p c =
    let x = c.args in
    let v = x.v.now in
    omega (arith, c.loop.invariant.1.0, there v _ 43 (sym c.byte-in-loop-2.ensures ∙ c.if-byte-ne44.false))

pub loop-preserved : goal.loop-preserved
loop-preserved c =
    let x = c.args in
    let v = x.v.now in
    let q = c.skip-q.result in
    let one = one_element v (length c.args.v.now - c.loop.counter) c.loop.p (omega arith) c.skip-q.ensures.is in
    let e = c.element_at-then.ensures in
    let string = eq-eqb _ _ (sym c.byte-in-loop.ensures ∙ c.if-byte-ne34.false) in
    let b = sym c.byte-in-loop-2.ensures ∙ c.if-byte-ne44.false in
    let less : length v - c.loop.counter - 1 ≡ length v - (c.loop.counter + 1) = omega arith in
    let next = comma v (elements_from (length v - c.loop.counter - 1) v) q e.goes.is b in (
      omega (arith, there v _ 43 b),
      (
        c.loop.invariant.1.0,
        c.loop.invariant.1.1 ∙ ap (all (quotes v)) one ∙ every_more (quotes v) v q _ string ∙ ap (all (quotes v)) next
            ∙ ap (λ (k : ℕ). all (quotes v) (elements_from k v (c.element_at-then.result.then + 1))) less,
      ),
    )

pub returns : goal.returns
returns c =
    let x = c.args in
    let v = x.v.now in
    sym (c.loop.invariant.1.1 ∙ ap (all (quotes v)) (no_element v (length c.args.v.now - c.loop.counter) c.loop.p (omega arith)) ∙ every-none (quotes v))
