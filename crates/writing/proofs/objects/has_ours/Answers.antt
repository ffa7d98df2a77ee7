use Prim.Native.Nat.{ℕ, ◌+◌, ◌-◌}
use Rattle.json_text.proofs.TurnLaws.{no-elements, some-elements, one_element, no_element, comma, no-comma}
use Rattle.json_text.specs.Places.{bytes, elements_from}
use Rattle.octets.proofs.TextLaws.{there}
use Rattle.writing.proofs.TrailLaws.{own-part, some-none, some-now, some-later}
use Rattle.writing.proofs.objects.has_ours.Goals as goal
use Rattle.writing.specs.Objects.{is_ours, some}
use borrow.Author.Rules.{rules}
use lib.ListN.{length}
use mathlib.Core.List.{List, map}
use mathlib.Core.Path.{◌≡◌, sym, ap, ◌∙◌}
use native.Mathlib.Omega.{arith}

pub overflow_add-v : goal.overflow_add-v
overflow_add-v c = omega (arith, c.requires)

pub returns-then-byte-eq93 : goal.returns-then-byte-eq93
returns-then-byte-eq93 c =
    let x = c.args in
    some-none (is_ours x.path.host.now x.path.destination.now) x.s.now
    (no-elements x.s.now x.v c.skip.ensures.is (sym c.byte.ensures ∙ c.if-byte-eq93.true))

pub overflow_add-p : goal.overflow_add-p
overflow_add-p c = omega (arith, c.requires)

pub loop-init : goal.loop-init
loop-init c =
    let x = c.args in
    let f = is_ours x.path.host.now x.path.destination.now in
    let s = x.s.now in
    let all : length s ≡ length s - 0 = omega arith in (
      omega (arith, c.requires),
      (
        search rules,
        ap (λ (l : List ℕ). some f (map (bytes s) l)) (some-elements s x.v c.skip.ensures.is (λ e. c.if-byte-eq93.false (c.byte.ensures ∙ e)))
            ∙ ap (λ (k : ℕ). some f (map (bytes s) (elements_from k s (x.v + 1)))) all,
      ),
    )

pub returns-then-is_ours : goal.returns-then-is_ours
returns-then-is_ours c =
    let x = c.args in
    let f = is_ours x.path.host.now x.path.destination.now in
    let s = x.s.now in
    let l = c.loop in
    let n = length x.s.now - l.counter in
    let q = c.skip-q in
    let one = one_element s n l.p (omega arith) q.ensures.is in
    some-now f s q.result _ one (own-part s q.result c.element_at-e.ensures.ends.is c.part.ensures)
    c.is_ours.ensures c.if-is_ours.true ∙ sym l.invariant.1.1

pub returns-then-byte-ne44 : goal.returns-then-byte-ne44
returns-then-byte-ne44 c =
    let x = c.args in
    let f = is_ours x.path.host.now x.path.destination.now in
    let s = x.s.now in
    let l = c.loop in
    let n = length x.s.now - l.counter in
    let q = c.skip-q in
    let e = c.element_at-e.ensures in
    let one = one_element s n l.p (omega arith) q.ensures.is in
    let none = no-comma s (elements_from (n - 1) s) q.result e.goes.is (λ g. c.if-byte-ne44.true (c.byte-in-loop.ensures ∙ g)) in
    some-none f s none ∙ sym (l.invariant.1.1
    ∙ some-later f s q.result _ one (own-part s q.result e.ends.is c.part.ensures) c.is_ours.ensures
    c.if-is_ours.false)

pub overflow_add-p-in-loop : goal.overflow_add-p-in-loop
overflow_add-p-in-loop c =
    omega (arith, c.loop.invariant.1.0, there c.args.s.now c.element_at-e.result.then 43 (sym c.byte-in-loop.ensures ∙ c.if-byte-ne44.false))

pub loop-preserved : goal.loop-preserved
loop-preserved c =
    let x = c.args in
    let f = is_ours x.path.host.now x.path.destination.now in
    let s = x.s.now in
    let l = c.loop in
    let n = length x.s.now - l.counter in
    let q = c.skip-q in
    let e = c.element_at-e in
    let b = sym c.byte-in-loop.ensures ∙ c.if-byte-ne44.false in
    let one = one_element s n l.p (omega arith) q.ensures.is in
    let less : n - 1 ≡ length s - (l.counter + 1) = omega arith in
    let next = comma s (elements_from (n - 1) s) q.result e.ensures.goes.is b in (
      omega (arith, there s e.result.then 43 b),
      (
        l.invariant.1.0,
        l.invariant.1.1 ∙ some-later f s q.result _ one (own-part s q.result e.ensures.ends.is c.part.ensures)
            c.is_ours.ensures c.if-is_ours.false ∙ ap (λ (l : List ℕ). some f (map (bytes s) l)) next
            ∙ ap (λ (k : ℕ). some f (map (bytes s) (elements_from k s (e.result.then + 1)))) less,
      ),
    )

pub returns : goal.returns
returns c =
    let x = c.args in
    let l = c.loop in
    let n = length x.s.now - l.counter in
    some-none (is_ours x.path.host.now x.path.destination.now) x.s.now (no_element x.s.now n l.p (omega arith)) ∙ sym l.invariant.1.1
