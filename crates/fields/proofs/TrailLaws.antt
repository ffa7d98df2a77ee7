-- The walk over the objects of Via, one object at a time: the trail so far, and that the objects still to come decide the rest; and the trail by the
-- places of the message. Assumes nothing.
use Rattle.octets.proofs.TextLaws.{there}
use Rattle.json_text.proofs.PlaceLaws.{last_one, prev_two}
use Rattle.json_text.proofs.TurnLaws.{some-elements, one_element, comma, no-comma}
use Rattle.fields.specs.inner.Asked.{Within}
use Rattle.json_text.specs.inner.Landing.{Cell}
use Prim.Native.Nat.{ℕ, zero, suc, ◌+◌, ◌-◌, ◌≤◌, ◌<◌}
use Rattle.json_text.proofs.PlaceLaws.{past-inner, behind-inner}
use Rattle.json_text.specs.Places.{past, behind, bytes, follows, more, elements, elements_from, last_of, prev_of}
use Rattle.values.proofs.SpellingLaws.{bytes-short, span_within}
use Rattle.fields.proofs.ViaLaws.{via_from, from_first, seventeenth, broken, further, at-end}
use Rattle.fields.specs.Trail.{host_span, host_start, host_end, trail_of, no_trail, trail_in}
use Rattle.values.specs.Value.{is_array}
use Rattle.fields.specs.Via.{is_hop, via_rule}
use Rattle.fields.specs.declared.trails.Trail.{Trail}
use Rattle.values.specs.declared.spans.Span.{Span}
use borrow.Author.Tests.{eqb-true}
use lib.Dec.{eqb}
use lib.ListN.{length, get_or}
use mathlib.Core.Bool.{Bool, true, false, cond}
use mathlib.Core.List.{List, [], ◌∷◌, map}
use mathlib.Core.Path.{◌≡◌, refl, sym, ap, ◌∙◌}
use native.Mathlib.Omega.{arith}

-- The last two values of f on some places, where a and b are the last two so far and qs are still to come.

abbrev LastBy : (ℕ → ℕ) → List ℕ → ℕ → List ℕ → Type 0
LastBy f os b qs = last_of (map f os) ≡ last_of (b ∷ map f qs)

abbrev PrevBy : (ℕ → ℕ) → List ℕ → ℕ → ℕ → List ℕ → Type 0
PrevBy f os a b qs = prev_of (map f os) ≡ prev_of (a ∷ (b ∷ map f qs))

last_none : (xs : List ℕ) → last_of xs ≡ last_of (0 ∷ xs)
unfolding last_of
last_none [] = refl
last_none (x ∷ xs) = refl

prev_none : (xs : List ℕ) → prev_of xs ≡ prev_of (0 ∷ (0 ∷ xs))
unfolding prev_of
prev_none [] = refl
prev_none (x ∷ []) = refl
prev_none (x ∷ (y ∷ xs)) = refl

last-skip : (x y : ℕ) (qs : List ℕ) → last_of (x ∷ (y ∷ qs)) ≡ last_of (y ∷ qs)
unfolding last_of
last-skip x y qs = refl

prev_skip : (x y z : ℕ) (qs : List ℕ) → prev_of (x ∷ (y ∷ (z ∷ qs))) ≡ prev_of (y ∷ (z ∷ qs))
unfolding prev_of
prev_skip x y z qs = refl

module _ (f : ℕ → ℕ) (os : List ℕ) (a b : ℕ) {qs : List ℕ} (q : ℕ) (rest : List ℕ) {c : ℕ} (e : qs ≡ q ∷ rest) (g : c ≡ f q) where
  last_on : LastBy f os b qs → LastBy f os c rest
  last_on h = h ∙ rw (e, g) (last-skip b (f q) (map f rest))

  prev_on : PrevBy f os a b qs → PrevBy f os b c rest
  prev_on h = h ∙ rw (e, g) (prev_skip a b (f q) (map f rest))

-- the trail r of the objects so far, whose last has its host at h, with the objects qs of v still to come
pub record Sofar (v : List ℕ) (r : Trail) (h : Span) (qs : List ℕ) : Type 0 where
  pub count : length (elements v 0) ≡ r.count + length qs
  pub last : last_of (elements v 0) ≡ last_of (r.last ∷ qs)
  pub end : LastBy (behind v) (elements v 0) r.end qs
  pub seam : PrevBy (behind v) (elements v 0) r.seam r.end qs
  pub start : PrevBy (host_start v) (elements v 0) r.host.start h.start qs
  pub stop : PrevBy (host_end v) (elements v 0) r.host.end h.end qs

pub host-within : (v : List ℕ) (o : ℕ) → ((host_span v o).start ≤ length v) × ((host_span v o).end ≤ length v)
unfolding host_span
host-within v o = span_within v _

-- no object yet
begun : (v : List ℕ) {r : Trail} (qs : List ℕ) → r ≡ no_trail → elements v 0 ≡ qs → Sofar v r (record { start = 0; end = 0 }) qs
begun v qs e g = rw e (record {
  count = ap length g ∙ (let z : length qs ≡ 0 + length qs = omega arith in z);
  last = rw g (last_none qs);
  end = rw g (last_none (map (behind v) qs));
  seam = rw g (prev_none (map (behind v) qs));
  start = rw g (prev_none (map (host_start v) qs));
  stop = rw g (prev_none (map (host_end v) qs));
})

-- one object more, as `onward` answers
abbrev Onward : Trail → Span → ℕ → ℕ → Trail → Type 0
Onward r h q e n = (n.count ≡ r.count + 1) × ((n.last ≡ q) × ((n.end ≡ e) × ((n.seam ≡ r.end) × (n.host ≡ h))))

module _ {v : List ℕ} {r : Trail} {h : Span} {qs : List ℕ} (f : Sofar v r h qs) where
  one_on : (q : ℕ) (rest : List ℕ) {e : ℕ} {k : Span} {n : Trail} → qs ≡ q ∷ rest → e ≡ behind v q → k ≡ host_span v q → Onward r h q e n → Sofar v n k rest
  one_on q rest {e} {k} {n} g i m o = record {
    count = f.count ∙ rw (g, o.0) (omega arith);
    last = f.last ∙ rw (g, o.1.0) (last-skip r.last q rest);
    end = last_on (behind v) (elements v 0) r.seam r.end q rest g (o.1.1.0 ∙ i) f.end;
    seam = rw o.1.1.1.0 (prev_on (behind v) (elements v 0) r.seam r.end q rest g (o.1.1.0 ∙ i) f.seam);
    start = rw o.1.1.1.1 (prev_on (host_start v) (elements v 0) r.host.start h.start q rest g (ap (λ (x : Span). x.start) m) f.start);
    stop = rw o.1.1.1.1 (prev_on (host_end v) (elements v 0) r.host.end h.end q rest g (ap (λ (x : Span). x.end) m) f.stop);
  }

  -- no object is left
  over : qs ≡ [] → via_rule v ≡ true → r ≡ trail_in v
  unfolding trail_in trail_of
  over g e =
      let c : length (elements v 0) ≡ r.count = f.count ∙ rw g (omega arith) in
      let l : last_of (elements v 0) ≡ r.last = f.last ∙ rw g (last_one r.last) in
      let n : last_of (map (behind v) (elements v 0)) ≡ r.end = f.end ∙ rw g (last_one r.end) in
      let m : prev_of (map (behind v) (elements v 0)) ≡ r.seam = f.seam ∙ rw g (prev_two r.seam r.end) in
      let a : prev_of (map (host_start v) (elements v 0)) ≡ r.host.start = f.start ∙ rw g (prev_two r.host.start h.start) in
      let z : prev_of (map (host_end v) (elements v 0)) ≡ r.host.end = f.stop ∙ rw g (prev_two r.host.end h.end) in
      rw (e, c, l, n, m, a, z)

-- Rule and trail together: the walk over the objects of v, where p is behind the bracket or a comma and n objects at most are to come.
pub record Walking (v : List ℕ) (r : Trail) (h : Span) (n p : ℕ) : Type 0 where
  pub rule : via_rule v ≡ via_from v r.count (elements_from n v p)
  pub trail : Sofar v r h (elements_from n v p)
  pub few : r.count ≤ 16
  pub counted : r.count + n ≡ length v

-- what is found of a value that keeps the rule
abbrev Kept : List ℕ → Trail → Type 0
Kept v r = (true ≡ via_rule v) × (r ≡ trail_in v)

pub walk-starts : (v : List ℕ) {q : ℕ} {r : Trail} {n : ℕ} → n ≡ length v → is_array v ≡ true → q ≡ past v 1 → (get_or v q 0 ≡ 93 → ⊥) → r ≡ no_trail
    → Walking v r (record { start = 0; end = 0 }) n 1
walk-starts v z e f g i = rw (i, z) (record {
  rule = from_first v e f g;
  trail = begun v (elements_from (length v) v 1) refl (some-elements v 0 f g);
  few = omega arith;
  counted = omega arith;
})

module _ {v : List ℕ} {r : Trail} {h : Span} {n p : ℕ} (f : Walking v r h n p) where
  pub walk-over : elements_from n v p ≡ [] → 1 ≤ r.count → Kept v r
  walk-over e k =
      let t : via_rule v ≡ true = f.rule ∙ ap (via_from v r.count) e ∙ at-end v r.count k f.few in
      (sym t, over f.trail e t)

  module _ (some : 0 < n) {q : ℕ} (at-q : q ≡ past v p) where
    next : elements_from n v p ≡ q ∷ more v (elements_from (n - 1) v) q
    next = one_element v n p some at-q

    pub walk-full : r.count ≡ 16 → via_rule v ≡ false
    walk-full e = f.rule ∙ ap (via_from v r.count) next ∙ seventeenth v r.count q _ e

    pub walk-broken : is_hop v q ≡ false → via_rule v ≡ false
    walk-broken e = f.rule ∙ ap (via_from v r.count) next ∙ broken v r.count q _ e

    module _ (room : r.count ≡ 16 → ⊥) (good : is_hop v q ≡ true) {k : Span} (host : k ≡ host_span v q) {e t : ℕ} (cell : Cell v q e t) {m : Trail} (on : Onward r h q e m) where
      walk-on : (rest : List ℕ) → more v (elements_from (n - 1) v) q ≡ rest → (via_rule v ≡ via_from v m.count rest) × Sofar v m k rest
      walk-on rest g = (
        f.rule ∙ ap (via_from v r.count) next ∙ further v r.count q _ good ∙ rw on.0 (ap (via_from v (r.count + 1)) g),
        one_on f.trail q rest (next ∙ ap (λ (l : List ℕ). q ∷ l) g) cell.ends.is host on,
      )

      -- a comma follows, or none
      pub walk-again : {n' : ℕ} → n' ≡ n - 1 → get_or v t 0 ≡ 44 → Walking v m k n' (t + 1)
      walk-again z b =
          let w = walk-on (elements_from (n - 1) v (t + 1)) (comma v (elements_from (n - 1) v) q cell.goes.is b) in
          record { rule = rw z w.0; trail = rw z w.1; few = omega (arith, on.0, f.few); counted = omega (arith, z, some, on.0, f.counted) }

      pub walk-shut : (get_or v t 0 ≡ 44 → ⊥) → Kept v m
      walk-shut b =
          let w = walk-on [] (no-comma v (elements_from (n - 1) v) q cell.goes.is b) in
          let y : via_rule v ≡ true = w.0 ∙ at-end v m.count (omega (arith, on.0)) (omega (arith, on.0, f.few)) in
          (sym y, over w.1 refl y)

-- A trail's places are inside the value.

abbrev Inside : ℕ → List ℕ → Type 0
Inside n [] = Unit
Inside n (x ∷ xs) = (x ≤ n) × Inside n xs

last-inside : (n : ℕ) (xs : List ℕ) → Inside n xs → last_of xs ≤ n
unfolding last_of
last-inside n [] h = omega arith
last-inside n (x ∷ []) h = h.0
last-inside n (x ∷ (y ∷ ys)) h = last-inside n (y ∷ ys) h.1

prev_inside : (n : ℕ) (xs : List ℕ) → Inside n xs → prev_of xs ≤ n
unfolding prev_of
prev_inside n [] h = omega arith
prev_inside n (x ∷ []) h = omega arith
prev_inside n (x ∷ (y ∷ [])) h = h.0
prev_inside n (x ∷ (y ∷ (z ∷ zs))) h = prev_inside n (y ∷ (z ∷ zs)) h.1

map-inside : (f : ℕ → ℕ) (n : ℕ) (xs : List ℕ) → ((x : ℕ) → x ≤ n → f x ≤ n) → Inside n xs → Inside n (map f xs)
map-inside f n [] g h = tt
map-inside f n (x ∷ xs) g h = (g x h.0, map-inside f n xs g h.1)

more-inside : (v : List ℕ) (p : ℕ) (f : ℕ → List ℕ) (b : Bool) → eqb (get_or v p 0) 44 ≡ b → (p + 1 ≤ length v → Inside (length v) (f (p + 1)))
    → Inside (length v) (cond b (f (p + 1)) [])
more-inside v p f true e h = h (omega (arith, there v p 43 (eqb-true _ 44 e)))
more-inside v p f false e h = tt

from-inside : (n : ℕ) (v : List ℕ) (a : ℕ) → a ≤ length v → Inside (length v) (elements_from n v a)
unfolding elements_from more
from-inside zero v a h = tt
from-inside (suc n) v a h = (
  past-inner v a h,
  more-inside v (follows v (past v a)) (elements_from n v) (eqb (get_or v (follows v (past v a)) 0) 44) refl (λ g. from-inside n v (follows v (past v a) + 1) g),
)

elements-inside : (v : List ℕ) → Inside (length v) (elements v 0)
unfolding elements elements_from
elements-inside [] = tt
elements-inside (b ∷ v) = by (eqb (get_or (b ∷ v) (past (b ∷ v) (0 + 1)) 0) 93)
  where
    by : (t : Bool) → Inside (length (b ∷ v)) (cond t [] (elements_from (length (b ∷ v)) (b ∷ v) (0 + 1)))
    by true = tt
    by false = from-inside (length (b ∷ v)) (b ∷ v) (0 + 1) (omega arith)

within_by : (v : List ℕ) (b : Bool) → Within (cond b (trail_of v (elements v 0)) no_trail) (length v)
unfolding trail_of
within_by v true =
    let e = elements-inside v in
    let f = map-inside (behind v) (length v) (elements v 0) (λ x h. behind-inner v x h) e in
    record {
      last = last-inside (length v) (elements v 0) e;
      end = last-inside (length v) (map (behind v) (elements v 0)) f;
      seam = prev_inside (length v) (map (behind v) (elements v 0)) f;
      start = prev_inside (length v) (map (host_start v) (elements v 0)) (map-inside (host_start v) (length v) (elements v 0) (λ x h. (host-within v x).0) e);
      stop = prev_inside (length v) (map (host_end v) (elements v 0)) (map-inside (host_end v) (length v) (elements v 0) (λ x h. (host-within v x).1) e);
    }
within_by v false = record { last = omega arith; end = omega arith; seam = omega arith; start = omega arith; stop = omega arith }

trail-within : (v : List ℕ) → Within (trail_in v) (length v)
unfolding trail_in
trail-within v = within_by v (via_rule v)

-- by the places of the message the trail is in the numbers of 64 bits
pub fits : (s : List ℕ) (a : ℕ) {r : Trail} → length s < 18446744073709551616 → r ≡ trail_in (bytes s a) → Within r (18446744073709551615 - a)
fits s a l e =
    let b = bytes-short s a in
    let i = trail-within (bytes s a) in
    rw e (record { last = omega (arith, i.last); end = omega (arith, i.end); seam = omega (arith, i.seam); start = omega (arith, i.start); stop = omega (arith, i.stop) })
