-- `positions::objects::element` meets its contract. One law of `ObjectLaws` for each way out of a turn. Assumes nothing.
use Prim.Native.Nat.{ℕ, ◌+◌, ◌-◌}
use Rattle.json_text.proofs.TurnLaws.{comma, no-comma, no-elements, no_element, one_element, some-elements}
use Rattle.json_text.specs.Places.{elements_from}
use Rattle.octets.proofs.TextLaws.{there}
use Rattle.positions.proofs.ObjectLaws.{later-element, no-element, this-element}
use Rattle.positions.proofs.objects.element.Goals as goal
use Rattle.std.specs.Prelude.{slice_get}
use lib.ListN.{length}
use mathlib.Core.List.{List}
use mathlib.Core.Path.{◌≡◌, ap, sym, ◌∙◌}
use native.Mathlib.Omega.{arith}

pub returns-then-byte-eq93 : goal.returns-then-byte-eq93
returns-then-byte-eq93 c = no-element c.args.k (no-elements c.args.v.now 0 c.skip.ensures.is (sym c.byte.ensures ∙ c.if-byte-eq93.true))

pub loop-i-init : goal.loop-i-init
loop-i-init c =
    let v = c.args.v.now in
    let all : length v ≡ length v - 0 = omega arith in
    let same : c.args.k ≡ c.args.k - 0 = omega arith in
    let some = some-elements v 0 c.skip.ensures.is (λ e. c.if-byte-eq93.false (c.byte.ensures ∙ e)) in
    record {
      ahead = omega arith;
      from =
          ap (λ (l : List ℕ). slice_get l c.args.k) (some ∙ ap (λ (k : ℕ). elements_from k v 1) all)
          ∙ ap (λ (k : ℕ). slice_get (elements_from (length v - 0) v 1) k) same;
    }

pub returns-then-i-k : goal.returns-then-i-k
returns-then-i-k c =
    let v = c.args.v.now in
    let one = one_element v (length v - c.loop-i.i) c.loop-i.p (omega arith) c.skip-q.ensures.is in
    this-element one c.if-i-k.true ∙ sym c.loop-i.invariant.from

pub returns-then-byte-ne44 : goal.returns-then-byte-ne44
returns-then-byte-ne44 c =
    let v = c.args.v.now in
    let q = c.skip-q.result in
    let one = one_element v (length v - c.loop-i.i) c.loop-i.p (omega arith) c.skip-q.ensures.is in
    let none = no-comma v (elements_from (length v - c.loop-i.i - 1) v) q c.element_at-then.ensures.goes.is (λ e. c.if-byte-ne44.true (c.byte-in-loop-i.ensures ∙ e)) in
    no-element (c.args.k - (c.loop-i.i + 1)) none ∙ sym (c.loop-i.invariant.from ∙ later-element one c.loop-i.invariant.ahead c.if-i-k.false)

pub overflow_add-p : goal.overflow_add-p
overflow_add-p c = omega (arith, there c.args.v.now c.element_at-then.result.then 43 (sym c.byte-in-loop-i.ensures ∙ c.if-byte-ne44.false))

pub loop-i-preserved : goal.loop-i-preserved
loop-i-preserved c =
    let v = c.args.v.now in
    let q = c.skip-q.result in
    let b = sym c.byte-in-loop-i.ensures ∙ c.if-byte-ne44.false in
    let one = one_element v (length v - c.loop-i.i) c.loop-i.p (omega arith) c.skip-q.ensures.is in
    let next = comma v (elements_from (length v - c.loop-i.i - 1) v) q c.element_at-then.ensures.goes.is b in
    let less : length v - c.loop-i.i - 1 ≡ length v - (c.loop-i.i + 1) = omega arith in
    record {
      ahead = omega (arith, c.loop-i.invariant.ahead, c.if-i-k.false);
      from =
          c.loop-i.invariant.from ∙ later-element one c.loop-i.invariant.ahead c.if-i-k.false
          ∙ ap (λ (l : List ℕ). slice_get l (c.args.k - (c.loop-i.i + 1))) (next ∙ ap (λ (k : ℕ). elements_from k v (c.element_at-then.result.then + 1)) less);
    }

pub returns : goal.returns
returns c =
    let v = c.args.v.now in
    no-element (c.args.k - c.loop-i.i) (no_element v (length v - c.loop-i.i) c.loop-i.p (omega arith)) ∙ sym c.loop-i.invariant.from
