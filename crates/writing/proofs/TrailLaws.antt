-- The trail of an accepted message is that of its Via where it stands (`trail-passed`); and the walk that asks whether one of its objects is ours.
-- Assumes nothing.
use Prim.Native.Nat.{ℕ, ◌+◌, ◌≤◌}
use Rattle.frame.proofs.ArrayEdits.{but_last, solid-goods}
use Rattle.frame.proofs.Standing.{Val}
use Rattle.frame.specs.Edit.{stops_of}
use Rattle.json_text.proofs.Listing.{Item, starts_at, stops_at, array-starts, array-stops}
use Rattle.json_text.specs.Places.{part, bytes, behind, elements, last_of, prev_of}
use Rattle.fields.proofs.TrailLaws.{host-within}
use Rattle.values.proofs.SpellingLaws.{spelled_cut}
use Rattle.fields.specs.Hop.{host_of}
use Rattle.message.specs.Message.{setting_of, message_of}
use Rattle.values.specs.Spans.{cut}
use Rattle.message.specs.Reading.{ample, reading}
use Rattle.fields.specs.Trail.{host_span, host_start, host_end, trail_of, trail_in, moved}
use Rattle.fields.specs.Via.{hop_places, is_hop}
use Rattle.message.specs.declared.facts.Message.{Message}
use Rattle.fields.specs.declared.trails.Trail.{Trail}
use Rattle.std.specs.Prelude.{Ok}
use Rattle.octets.proofs.TestLaws.{and_parts}
use Rattle.octets.specs.Class.{all}
use Rattle.message.proofs.AcceptedRows.{Accepted, read_taken}
use Rattle.writing.proofs.ForwardLaws.{kept-via, via-array, rest, drop-is, objects-are, items-are}
use Rattle.writing.proofs.ObjectLaws.{Stands, AllStand, array-stand, host-own, via-is}
use Rattle.writing.proofs.PartLaws.{last_in, prior-last, part-within}
use Rattle.writing.specs.Objects.{some}
use lib.ListN.{length, get_or, length-map}
use mathlib.Core.Bool.{Bool, true, false}
use mathlib.Core.List.{List, [], ◌∷◌, map}
use mathlib.Core.Path.{◌≡◌, refl, sym, ap, ◌∙◌}
use native.Mathlib.Omega.{arith}

-- The last of a list, and the last but one.

last-map : (f : ℕ → ℕ) (xs : List ℕ) → 1 ≤ length xs → last_of (map f xs) ≡ f (last_of xs)
unfolding last_of
last-map f [] h = absurd (omega arith)
last-map f (x ∷ []) h = refl
last-map f (x ∷ (y ∷ ys)) h = last-map f (y ∷ ys) (omega arith)

prev_map : (f : ℕ → ℕ) (xs : List ℕ) → 2 ≤ length xs → prev_of (map f xs) ≡ f (prev_of xs)
unfolding prev_of
prev_map f [] h = absurd (omega arith)
prev_map f (x ∷ []) h = absurd (omega arith)
prev_map f (x ∷ (y ∷ [])) h = refl
prev_map f (x ∷ (y ∷ (z ∷ zs))) h = prev_map f (y ∷ (z ∷ zs)) (omega arith)

stands_prev : (d : ℕ) (s qs : List ℕ) → 2 ≤ length qs → AllStand d s qs → Stands d s (prev_of qs)
unfolding prev_of
stands_prev d s [] h a = absurd (omega arith)
stands_prev d s (x ∷ []) h a = absurd (omega arith)
stands_prev d s (x ∷ (y ∷ [])) h a = a.0
stands_prev d s (x ∷ (y ∷ (z ∷ zs))) h a = stands_prev d s (y ∷ (z ∷ zs)) (omega arith) a.1

all_prev : (f : ℕ → Bool) (qs : List ℕ) → 2 ≤ length qs → all f qs ≡ true → f (prev_of qs) ≡ true
unfolding prev_of all
all_prev f [] h a = absurd (omega arith)
all_prev f (x ∷ []) h a = absurd (omega arith)
all_prev f (x ∷ (y ∷ [])) h a = (and_parts (f x) _ a).0
all_prev f (x ∷ (y ∷ (z ∷ zs))) h a = all_prev f (y ∷ (z ∷ zs)) (omega arith) (and_parts (f x) _ a).1

-- The items of an array, v places further on.

starts-moved : (v a b : ℕ) (i : Item) (is : List Item) → b ≡ v + a → starts_at b i is ≡ map (λ (n : ℕ). v + n) (starts_at a i is)
unfolding starts_at
starts-moved v a b i [] e = ap (λ (n : ℕ). n ∷ []) (let z : b + length i.w ≡ v + (a + length i.w) = omega (arith, e) in z)
starts-moved v a b i (j ∷ js) e =
    let x : b + length i.w ≡ v + (a + length i.w) = omega (arith, e) in
    let y : b + length i.w + length i.v + length i.u + 1 ≡ v + (a + length i.w + length i.v + length i.u + 1) = omega (arith, e) in
    ap (λ (n : ℕ). n ∷ starts_at (b + length i.w + length i.v + length i.u + 1) j js) x
    ∙ ap (λ (l : List ℕ). (v + (a + length i.w)) ∷ l) (starts-moved v (a + length i.w + length i.v + length i.u + 1) _ j js y)

stops-moved : (v a b : ℕ) (i : Item) (is : List Item) → b ≡ v + a → stops_at b i is ≡ map (λ (n : ℕ). v + n) (stops_at a i is)
unfolding stops_at
stops-moved v a b i [] e = ap (λ (n : ℕ). n ∷ []) (let z : b + length i.w + length i.v ≡ v + (a + length i.w + length i.v) = omega (arith, e) in z)
stops-moved v a b i (j ∷ js) e =
    let x : b + length i.w + length i.v ≡ v + (a + length i.w + length i.v) = omega (arith, e) in
    let y : b + length i.w + length i.v + length i.u + 1 ≡ v + (a + length i.w + length i.v + length i.u + 1) = omega (arith, e) in
    ap (λ (n : ℕ). n ∷ stops_at (b + length i.w + length i.v + length i.u + 1) j js) x
    ∙ ap (λ (l : List ℕ). (v + (a + length i.w + length i.v)) ∷ l) (stops-moved v (a + length i.w + length i.v + length i.u + 1) _ j js y)

-- r is the trail of the Via that opens at v in s
pub record Passed (s : List ℕ) (v : ℕ) (r : Trail) : Type 0 where
  pub count : r.count ≡ length (elements s v)
  pub last : r.last ≡ last_of (elements s v)
  pub end : r.end ≡ last_of (stops_of s v)
  pub seam : 2 ≤ r.count → r.seam ≡ prev_of (stops_of s v)
  pub host : 2 ≤ r.count → part s r.host.start r.host.end ≡ host_of (bytes s (prev_of (elements s v)))

module _ {s : List ℕ} {tag : ℕ} {t : List ℕ} (a : Accepted s tag t) where
  abbrev at : ℕ
  at = get_or t 6 0

  abbrev via : List ℕ
  via = bytes s at

  abbrev onward : ℕ → ℕ
  onward n = at + n

  -- the objects of Via by itself, and where they stand in the message
  elements-moved : elements s at ≡ map onward (elements via 0)
  elements-moved =
      let w = via-array a in
      let g = solid-goods 5 w.i w.is w.solid in
      array-starts (Val 5) (λ v q x. x.sized) s at w.i w.is (rest a) g (drop-is a)
      ∙ starts-moved at 1 (at + 1) w.i w.is refl
      ∙ ap (map onward) (sym (array-starts (Val 5) (λ v q x. x.sized) via 0 w.i w.is [] g w.eq))

  ends-moved : map (behind s) (elements s at) ≡ map onward (map (behind via) (elements via 0))
  ends-moved =
      let w = via-array a in
      let g = solid-goods 5 w.i w.is w.solid in
      array-stops (Val 5) (λ v q x. x.sized) s at w.i w.is (rest a) g (drop-is a)
      ∙ stops-moved at 1 (at + 1) w.i w.is refl
      ∙ ap (map onward) (sym (array-stops (Val 5) (λ v q x. x.sized) via 0 w.i w.is [] g w.eq))

  objects-same : map (bytes s) (elements s at) ≡ map (bytes via) (elements via 0)
  objects-same = objects-are a ∙ sym (items-are a)

  many : length (elements s at) ≡ length (elements via 0)
  many = ap length elements-moved ∙ length-map (elements via 0) onward

  some-here : 1 ≤ length (elements via 0)
  some-here = (via-is via (kept-via a)).many.0

  -- the host of the last but one
  module _ (two : 2 ≤ length (elements via 0)) where
    abbrev q : ℕ
    q = prev_of (elements via 0)

    hop : is_hop via q ≡ true
    hop = all_prev (is_hop via) (elements via 0) two (via-is via (kept-via a)).hops

    stands : Stands 5 via q
    stands = let w = via-array a in stands_prev 5 via (elements via 0) two (array-stand 5 via 0 w.i w.is [] w.solid w.eq)

    object-same : bytes via q ≡ bytes s (prev_of (elements s at))
    object-same = sym (prior-last (bytes via) (elements via 0) two) ∙ ap (λ (l : List (List ℕ)). last_in (but_last l)) (sym objects-same)
        ∙ prior-last (bytes s) (elements s at) (omega (arith, many, two))

    host-cut : part via (host_start via q) (host_end via q) ≡ host_of (bytes via q)
    unfolding host_span cut
    host-cut = spelled_cut via (get_or (hop_places via q) 1 0) ∙ host-own 5 via q stands hop

    host-part : part s (at + prev_of (map (host_start via) (elements via 0))) (at + prev_of (map (host_end via) (elements via 0))) ≡ host_of (bytes s (prev_of (elements s at)))
    host-part =
        rw (prev_map (host_start via) (elements via 0) two, prev_map (host_end via) (elements via 0) two)
        (part-within s at (host_start via q) (host_end via q) (host-within via q).1 ∙ host-cut ∙ ap host_of object-same)

  trail-here : Passed s at (moved at (trail_of via (elements via 0)))
  unfolding moved trail_of stops_of
  trail-here = record {
    count = sym many;
    last = sym (ap last_of elements-moved ∙ last-map onward (elements via 0) some-here);
    end = sym (ap last_of ends-moved ∙ last-map onward (map (behind via) (elements via 0)) (omega (arith, some-here, length-map (elements via 0) (behind via))));
    seam = λ two. sym (ap prev_of ends-moved ∙ prev_map onward (map (behind via) (elements via 0)) (omega (arith, two, length-map (elements via 0) (behind via))));
    host = λ two. host-part two;
  }

  trail-found : Passed s at (moved at (trail_in via))
  unfolding trail_in
  trail-found = rw (kept-via a) trail-here

  trail-read : Passed s (message_of s (setting_of s tag t) t).via (message_of s (setting_of s tag t) t).trail
  unfolding message_of
  trail-read = trail-found

-- what the reading says of a request's or a response's Via
pub trail-passed : (s : List ℕ) (m : Message) → reading ample s ≡ Ok m → m.tag ≤ 2 → Passed s m.via m.trail
trail-passed s m e l = let a = read_taken ample s m e l in rw (← a.is) (trail-read a.accepted)

-- Whether one object of those is ours: the objects qs of s are still to come.

pub own-part : (s : List ℕ) (q : ℕ) {e : ℕ} {x : List ℕ} → e ≡ behind s q → x ≡ part s q e → x ≡ bytes s q
own-part s q f g = g ∙ rw f

pub some-none : (f : List ℕ → Bool) (s : List ℕ) {qs : List ℕ} → qs ≡ [] → false ≡ some f (map (bytes s) qs)
unfolding some
some-none f s e = rw e

module _ (f : List ℕ → Bool) (s : List ℕ) (q : ℕ) (more : List ℕ) {qs : List ℕ} (e : qs ≡ q ∷ more) {x : List ℕ} (g : x ≡ bytes s q) {b : Bool} (h : b ≡ f x) where
  pub some-now : b ≡ true → true ≡ some f (map (bytes s) qs)
  unfolding some
  some-now k = let z : f (bytes s q) ≡ true = ap f (sym g) ∙ sym h ∙ k in rw (e, z)

  pub some-later : b ≡ false → some f (map (bytes s) qs) ≡ some f (map (bytes s) more)
  unfolding some
  some-later k = let z : f (bytes s q) ≡ false = ap f (sym g) ∙ sym h ∙ k in rw (e, z)
