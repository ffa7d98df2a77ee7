-- The cycle of an object, its members, and the objects in them meets its contracts. One law of `FaultLaws` for each way out. Assumes nothing.
use Prim.Native.Nat.{ℕ, ◌+◌, ◌-◌}
use Rattle.json_text.proofs.TurnLaws.{comma, no-comma, no-elements, no_element, one_element, some-elements}
use Rattle.json_text.specs.Places.{elements_from, more}
use Rattle.octets.proofs.TextLaws.{there}
use Rattle.particulars.proofs.FaultLaws.{an-object, an-object-under, array-full, array-more, array-over, array-start, array_from, broken, kept, let-off, missing, no-array}
use Rattle.particulars.proofs.FaultLaws.{no-levels, no-object, no-objects, objects-under, rows-more, rows-over, rows-start, ruled-row, then-some}
use Rattle.particulars.proofs.TableLaws.{row-here, rows-end}
use Rattle.particulars.proofs.objects.+objects.Goals as goal
use Rattle.particulars.specs.Faults.{choices, faults, none_set, rows_faults}
use Rattle.particulars.specs.Leaves.{is_blank, keeps}
use Rattle.particulars.specs.Lowest.{lower, lowest}
use Rattle.particulars.specs.Types.{row_of, rows_of}
use Rattle.particulars.specs.declared.types.Kind.{Kind}
use Rattle.values.proofs.SpellingLaws.{own-bytes}
use Rattle.values.specs.inner.Asked.{Own}
use borrow.Author.Rules.{rules}
use lib.ListN.{drop, length}
use Rattle.particulars.proofs.objects.+objects.Goals.{row-else-x-via-then-x+then-call+else-is_blank, row-else-x-via-then-x+else-call, row-else-x-via-else-x}
use Rattle.std.specs.Prelude.{None, Option, Some}
use mathlib.Core.Bool.{Bool, true, false, ◌&&◌, and-false, cond}
use mathlib.Core.List.{List}
use mathlib.Core.Path.{◌≡◌, ap, refl, subst, sym, ◌∙◌}
use native.Mathlib.Omega.{arith}

and-not-blank : (a b : Bool) → (a && (b && false)) ≡ false
and-not-blank true b = and-false b
and-not-blank false b = refl

pub object-returns-then-levels-eq0 : goal.object-returns-then-levels-eq0
object-returns-then-levels-eq0 t c = let a = c.args in no-levels a.call a.t a.s.now a.o a.levels c.if-levels-eq0.true

pub object-returns-then-byte-ne123 : goal.object-returns-then-byte-ne123
object-returns-then-byte-ne123 t c =
    let a = c.args in
    no-object a.call a.t a.s.now a.o a.levels c.if-levels-eq0.false (λ e. c.if-byte-ne123.true (c.byte.ensures ∙ e))

pub object-returns : goal.object-returns
object-returns t c =
    let a = c.args in
    an-object a.call a.t a.s.now a.o a.levels (a.levels - 1) c.if-levels-eq0.false (omega (arith, c.if-levels-eq0.false)) (sym c.byte.ensures ∙ c.if-byte-ne123.false)
    c.gather-f.ensures.places c.members.ensures

pub objects-returns-then-byte-ne91 : goal.objects-returns-then-byte-ne91
objects-returns-then-byte-ne91 t c =
    let a = c.args in
    no-array (λ p. faults a.levels a.call a.t a.s.now p) a.most a.s.now a.a (λ e. c.if-byte-ne91.true (c.byte.ensures ∙ e))

pub objects-returns-then-byte-eq93 : goal.objects-returns-then-byte-eq93
objects-returns-then-byte-eq93 t c =
    let a = c.args in
    no-objects (λ p. faults a.levels a.call a.t a.s.now p) a.most a.s.now a.a (sym c.byte.ensures ∙ c.if-byte-ne91.false)
    (no-elements a.s.now a.a c.skip.ensures.is (sym c.byte-2.ensures ∙ c.if-byte-eq93.true))

pub objects-loop-init : goal.objects-loop-init
objects-loop-init t c =
    let a = c.args in
    let s = a.s.now in
    let all : length s ≡ length s - 0 = omega arith in
    let f : ℕ → List ℕ = λ p. faults a.levels a.call a.t s p in
    record {
      high = omega (arith, there s a.a 90 (sym c.byte.ensures ∙ c.if-byte-ne91.false));
      small = search rules;
      few = omega arith;
      from =
          array-start f a.most s a.a (sym c.byte.ensures ∙ c.if-byte-ne91.false) (elements_from (length s - 0) s (a.a + 1))
          (some-elements s a.a c.skip.ensures.is (λ e. c.if-byte-eq93.false (c.byte-2.ensures ∙ e)) ∙ ap (λ (k : ℕ). elements_from k s (a.a + 1)) all);
    }

pub objects-returns-then-n-most : goal.objects-returns-then-n-most
objects-returns-then-n-most t c =
    let a = c.args in
    let s = a.s.now in
    let f : ℕ → List ℕ = λ p. faults a.levels a.call a.t s p in
    array-full f a.most s a.a c.loop.n _ _ c.loop.low (one_element s (length s - c.loop.counter) c.loop.p (omega arith) refl) c.if-n-most.true
    ∙ sym c.loop.invariant.from

pub objects-returns-then-byte-ne44 : goal.objects-returns-then-byte-ne44
objects-returns-then-byte-ne44 t c =
    let a = c.args in
    let s = a.s.now in
    let f : ℕ → List ℕ = λ p. faults a.levels a.call a.t s p in
    let q = c.skip-q.result in
    let one = one_element s (length s - c.loop.counter) c.loop.p (omega arith) c.skip-q.ensures.is in
    let none = no-comma s (elements_from (length s - c.loop.counter - 1) s) q c.element_at-then.ensures.goes.is (λ e. c.if-byte-ne44.true (c.byte-in-loop.ensures ∙ e)) in
    c.lower-low.ensures
    ∙ array-over f a.most s a.a (c.loop.n + 1) (lower c.loop.low c.object.result) none (omega (arith, c.loop.invariant.few, c.if-n-most.false))
    ∙ sym (c.loop.invariant.from ∙ array-more f a.most s a.a c.loop.n q _ c.loop.low one c.object.ensures)

pub objects-loop-preserved : goal.objects-loop-preserved
objects-loop-preserved t c =
    let a = c.args in
    let s = a.s.now in
    let f : ℕ → List ℕ = λ p. faults a.levels a.call a.t s p in
    let q = c.skip-q.result in
    let b = sym c.byte-in-loop.ensures ∙ c.if-byte-ne44.false in
    let one = one_element s (length s - c.loop.counter) c.loop.p (omega arith) c.skip-q.ensures.is in
    let less : length s - c.loop.counter - 1 ≡ length s - (c.loop.counter + 1) = omega arith in
    let next = comma s (elements_from (length s - c.loop.counter - 1) s) q c.element_at-then.ensures.goes.is b in
    record {
      high = omega (arith, there s c.element_at-then.result.then 43 b);
      small = c.loop.invariant.small;
      few = omega (arith, c.loop.invariant.few, c.if-n-most.false);
      from =
          c.loop.invariant.from ∙ array-more f a.most s a.a c.loop.n q _ c.loop.low one c.object.ensures
          ∙ ap (λ (x : Option ℕ). array_from f a.most a.a (c.loop.n + 1) x (more s (elements_from (length s - c.loop.counter - 1) s) q)) (sym c.lower-low.ensures)
          ∙ ap (array_from f a.most a.a (c.loop.n + 1) c.lower-low.result) (next ∙ ap (λ (k : ℕ). elements_from k s (c.element_at-then.result.then + 1)) less);
    }

pub objects-returns : goal.objects-returns
objects-returns t c =
    let a = c.args in
    let s = a.s.now in
    let f : ℕ → List ℕ = λ p. faults a.levels a.call a.t s p in
    array-over f a.most s a.a c.loop.n c.loop.low (no_element s (length s - c.loop.counter) c.loop.p (omega arith)) c.loop.invariant.few ∙ sym c.loop.invariant.from

pub under-keeps-requires : goal.under-keeps-requires
under-keeps-requires t c = subst (λ (l : List ℕ). Own l) (sym c.value_at.ensures) (own-bytes c.args.s.now c.args.v)

pub under-returns-then-keeps : goal.under-returns-then-keeps
under-returns-then-keeps t c =
    let a = c.args in
    let k = ap (keeps a.w c.in-Value.l) (sym c.value_at.ensures) ∙ sym c.keeps.ensures in
    rw c.in-Value.is (kept (λ u p. faults a.levels a.call u a.s.now p) a.call a.w a.s.now a.v c.in-Value.l (k ∙ c.if-keeps.true))

pub under-returns-else-keeps : goal.under-returns-else-keeps
under-returns-else-keeps t c =
    let a = c.args in
    let k = ap (keeps a.w c.in-Value.l) (sym c.value_at.ensures) ∙ sym c.keeps.ensures in
    rw c.in-Value.is (broken (λ u p. faults a.levels a.call u a.s.now p) a.call a.w a.s.now a.v c.in-Value.l (k ∙ c.if-keeps.false))

pub under-returns-in-Object : goal.under-returns-in-Object
under-returns-in-Object t c =
    let a = c.args in
    rw c.in-Object.is (an-object-under (λ u p. faults a.levels a.call u a.s.now p) a.call a.w a.s.now a.v c.in-Object.t c.object.ensures)

pub under-returns-in-Objects : goal.under-returns-in-Objects
under-returns-in-Objects t c =
    let a = c.args in
    rw c.in-Objects.is
    (objects-under (λ u p. faults a.levels a.call u a.s.now p) a.call a.w a.s.now a.v c.in-Objects.n c.in-Objects.t c.allowed.ensures c.objects.ensures)

pub row-returns-then-v-eq0 : goal.row-returns-then-v-eq0
row-returns-then-v-eq0 t c =
    let a = c.args in
    missing (λ u p. faults a.levels a.call u a.s.now p) a.call a.w a.s.now a.o a.v (row_of a.x) c.if-v-eq0.true c.is_needed.ensures (search rules)

pub row-returns-then-is_blank : goal.row-returns-then-is_blank
row-returns-then-is_blank t c =
    let a = c.args in
    let-off (λ u p. faults a.levels a.call u a.s.now p) a.call a.w a.s.now a.o a.v (row_of a.x) c.if-v-eq0.false c.if-x.true c.if-call.true
    (ap is_blank (sym c.value_at.ensures) ∙ sym c.is_blank.ensures ∙ c.if-is_blank.true)

pub row-returns : goal.row-returns
row-returns t c =
    let a = c.args in
    ruled-row (λ u p. faults a.levels a.call u a.s.now p) a.call a.w a.s.now a.o a.v (row_of a.x) c.if-v-eq0.false
    (elim c.else-x.branch [
      | row-else-x-via-then-x+then-call+else-is_blank w ↦ rw (ap is_blank (sym w.value_at.ensures) ∙ sym w.is_blank.ensures ∙ w.if-is_blank.false)
          (and-not-blank a.x.eased a.call.training)
      | row-else-x-via-then-x+else-call w ↦ rw w.if-call.false (and-false a.x.eased)
      | row-else-x-via-else-x w ↦ rw w.if-x.false
    ]) c.under.ensures

pub members-loop-k-init : goal.members-loop-k-init
members-loop-k-init t c =
    let a = c.args in
    let f : Kind → ℕ → List ℕ = λ u p. faults a.levels a.call u a.s.now p in
    let unset : c.then_some-unset.result ≡ cond (none_set a.s.now (choices a.f.now.at 1 (rows_of a.t))) (Some a.o) None =
    c.then_some-unset.ensures ∙ rw c.is_none_set.ensures (then-some (none_set a.s.now (choices a.f.now.at 1 (rows_of a.t))) a.o) in
    rows-start f a.call a.t a.s.now a.o a.f.now.at c.requires.lowest-repeat unset c.provider_in-w.ensures refl
    ∙ ap (λ (x : Option ℕ). lower x (lowest (rows_faults f a.call c.provider_in-w.result a.s.now a.o a.f.now.at 1 (rows_of a.t)))) (sym c.lower-low.ensures)

pub members-loop-k-preserved : goal.members-loop-k-preserved
members-loop-k-preserved t c =
    let a = c.args in
    let f : Kind → ℕ → List ℕ = λ u p. faults a.levels a.call u a.s.now p in
    c.loop-k.invariant
    ∙ rows-more f a.call a.t a.s.now a.o a.f.now.at c.provider_in-w.result (c.loop-k.k + 1) _ _ c.loop-k.low
    (row-here a.t c.entries-es.result.now c.entries-es.ensures.0 c.loop-k.k _ c.loop-k-test.true) c.row.ensures
    ∙ ap (λ (x : Option ℕ). lower x (lowest (rows_faults f a.call c.provider_in-w.result a.s.now a.o a.f.now.at (c.loop-k.k + 1 + 1) (drop (c.loop-k.k + 1) (rows_of a.t)))))
    (sym c.lower-low-in-loop-k.ensures)

pub members-returns : goal.members-returns
members-returns t c =
    let a = c.args in
    let f : Kind → ℕ → List ℕ = λ u p. faults a.levels a.call u a.s.now p in
    sym (c.loop-k.invariant
    ∙ rows-over f a.call a.t a.s.now a.o a.f.now.at c.provider_in-w.result (c.loop-k.k + 1) c.loop-k.low
    (rows-end a.t c.entries-es.result.now c.entries-es.ensures.0 c.loop-k.k c.loop-k-test.false))
