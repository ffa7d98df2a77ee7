-- `particulars::fields::locations_fault` meets its contract. One law of `FieldLaws` for each way out of a turn. Assumes nothing.
use Prim.Native.Nat.{ℕ, ◌+◌, ◌-◌}
use Rattle.json_text.proofs.TurnLaws.{comma, no-comma, no-elements, no_element, one_element, some-elements}
use Rattle.json_text.specs.Places.{elements_from, more}
use Rattle.octets.proofs.TextLaws.{there}
use Rattle.particulars.proofs.FieldLaws.{locations-more, locations-over, locations-start, no-array, none-there, stepped}
use Rattle.particulars.proofs.fields.locations_fault.Goals as goal
use Rattle.particulars.specs.Fields.{locations_from, nearest}
use Rattle.particulars.specs.Lowest.{lower, lowest}
use Rattle.std.specs.Prelude.{Option}
use Rattle.values.proofs.ValueLaws.{array-there}
use borrow.Author.Rules.{rules}
use lib.ListN.{length}
use mathlib.Core.List.{List}
use mathlib.Core.Path.{◌≡◌, ap, sym, ◌∙◌}
use native.Mathlib.Omega.{arith}

pub returns-then-not-is_array : goal.returns-then-not-is_array
returns-then-not-is_array c = no-array c.args.v.now (sym c.is_array.ensures ∙ c.if-not-is_array.true)

pub returns-then-byte-eq93 : goal.returns-then-byte-eq93
returns-then-byte-eq93 c =
    let v = c.args.v.now in
    none-there v (sym c.is_array.ensures ∙ c.if-not-is_array.false) (no-elements v 0 c.skip.ensures.is (sym c.byte.ensures ∙ c.if-byte-eq93.true))

pub loop-init : goal.loop-init
loop-init c =
    let v = c.args.v.now in
    let e = sym c.is_array.ensures ∙ c.if-not-is_array.false in
    let h = array-there v e in
    let all : length v ≡ length v - 0 = omega arith in
    record {
      high = omega arith;
      small = search rules;
      from =
          locations-start v e (elements_from (length v - 0) v 1)
          (some-elements v 0 c.skip.ensures.is (λ f. c.if-byte-eq93.false (c.byte.ensures ∙ f)) ∙ ap (λ (k : ℕ). elements_from k v 1) all);
    }

pub returns-then-byte-ne44 : goal.returns-then-byte-ne44
returns-then-byte-ne44 c =
    let v = c.args.v.now in
    let q = c.skip-q.result in
    let x = c.judge_location-x in
    let one = one_element v (length v - c.loop.counter) c.loop.p (omega arith) c.skip-q.ensures.is in
    let none = no-comma v (elements_from (length v - c.loop.counter - 1) v) q c.element_at-then.ensures.goes.is (λ e. c.if-byte-ne44.true (c.byte-in-loop.ensures ∙ e)) in
    let back = stepped v c.loop.w q x.ensures.provider x.ensures.place c.step_back.ensures in
    c.lower-low.ensures ∙ ap (lower c.loop.low) c.lower.ensures
    ∙ sym (c.loop.invariant.from ∙ locations-more v c.loop.w q _ c.loop.low one x.ensures.fault back x.ensures.provider
    ∙ locations-over v _ (lower c.loop.low (lower x.result.fault c.step_back.result)) none)

pub loop-preserved : goal.loop-preserved
loop-preserved c =
    let v = c.args.v.now in
    let q = c.skip-q.result in
    let x = c.judge_location-x in
    let b = sym c.byte-in-loop.ensures ∙ c.if-byte-ne44.false in
    let one = one_element v (length v - c.loop.counter) c.loop.p (omega arith) c.skip-q.ensures.is in
    let back = stepped v c.loop.w q x.ensures.provider x.ensures.place c.step_back.ensures in
    let less : length v - c.loop.counter - 1 ≡ length v - (c.loop.counter + 1) = omega arith in
    let next = comma v (elements_from (length v - c.loop.counter - 1) v) q c.element_at-then.ensures.goes.is b in
    let rest = elements_from (length v - (c.loop.counter + 1)) v (c.element_at-then.result.then + 1) in
    record {
      high = omega (arith, there v c.element_at-then.result.then 43 b);
      small = c.loop.invariant.small;
      from =
          c.loop.invariant.from ∙ locations-more v c.loop.w q _ c.loop.low one x.ensures.fault back x.ensures.provider
          ∙ ap (λ (l : Option ℕ). lower l (lowest (locations_from v (nearest c.loop.w x.result.provider) (more v (elements_from (length v - c.loop.counter - 1) v) q))))
          (sym (c.lower-low.ensures ∙ ap (lower c.loop.low) c.lower.ensures))
          ∙ ap (λ (l : List ℕ). lower c.lower-low.result (lowest (locations_from v (nearest c.loop.w x.result.provider) l)))
          (next ∙ ap (λ (k : ℕ). elements_from k v (c.element_at-then.result.then + 1)) less)
          ∙ ap (λ (w : ℕ). lower c.lower-low.result (lowest (locations_from v w rest))) (sym c.nearest-w.ensures);
    }

pub returns : goal.returns
returns c =
    let v = c.args.v.now in
    sym (c.loop.invariant.from ∙ locations-over v c.loop.w c.loop.low (no_element v (length v - c.loop.counter) c.loop.p (omega arith)))
