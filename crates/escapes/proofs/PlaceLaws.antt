-- The places of a text's octets: there are as many as octets, all are inside, and without a backslash each octet stands at its own. And the walk that finds
-- one, letter by letter. Assumes nothing.
use Prim.Native.Nat.{ℕ, zero, suc, ◌+◌, ◌-◌, ◌≤◌, ◌<◌}
use Rattle.escapes.proofs.LetterLaws.{took-some, escape-room}
use Rattle.escapes.specs.Encoding.{encoded}
use Rattle.escapes.specs.Placing.{places_from, place_of}
use Rattle.escapes.specs.Rfc7159.{escape_of, letter_of, letters_from, octets_of, spelt, text, took}
use Rattle.escapes.specs.Text.{escaped}
use Rattle.escapes.specs.declared.reading.Escape.{Escape}
use Rattle.octets.proofs.TestLaws.{or-none}
use borrow.Author.Tests.{eq-eqb, ne_eqb}
use lib.Dec.{eqb}
use lib.ListN.{length, drop, get_or, replicate, length-append, length-replicate, drop_of_length-le}
use lib.Seq.{drop-cons, drop-drop}
use mathlib.Core.Bool.{false}
use mathlib.Core.List.{List, [], ◌∷◌, ◌++◌}
use mathlib.Core.Path.{◌≡◌, refl, sym, ap, ◌∙◌}
use native.Mathlib.Decide.{dec_lt}
use native.Mathlib.Numerals.{add-one}
use native.Mathlib.Omega.{arith}

-- One number, w times, in front of others.

among_them : (w x : ℕ) (l : List ℕ) (n d : ℕ) → n < w → get_or (replicate w x ++ l) n d ≡ x
among_them zero x l n d h = absurd (omega arith)
among_them (suc w) x l zero d h = refl
among_them (suc w) x l (suc n) d h = among_them w x l n d (omega arith)

behind_them : (w x : ℕ) (l : List ℕ) (n d : ℕ) → w ≤ n → get_or (replicate w x ++ l) n d ≡ get_or l (n - w) d
behind_them zero x l n d h = let z : n - 0 ≡ n = omega arith in rw z
behind_them (suc w) x l zero d h = absurd (omega arith)
behind_them (suc w) x l (suc n) d h = let z : suc n - suc w ≡ n - w = omega arith in rw z (behind_them w x l n d (omega arith))

-- There are as many as octets.

as_many-from : (k at : ℕ) (s : List ℕ) → length (places_from k at s) ≡ length (spelt (letters_from k s))
unfolding places_from letters_from spelt
as_many-from zero at [] = refl
as_many-from (suc k) at [] = refl
as_many-from (suc k) at (b ∷ s) = as_many-from k (at + 1) s
as_many-from zero at (b ∷ s) =
    let w = octets_of (letter_of (b ∷ s)) in
    let k = took (b ∷ s) - 1 in
    let a = length-append (replicate (length w) at) (places_from k (at + 1) s) in
    let c = length-append w (spelt (letters_from k s)) in
    omega (arith, length-replicate (length w) at, as_many-from k (at + 1) s)

pub as_many : (s : List ℕ) → length (places_from 0 0 s) ≡ length (text s)
unfolding text
as_many s = as_many-from 0 0 s

-- All are inside.

inside-by : (w at : ℕ) (l : List ℕ) (n d : ℕ) → at ≤ d → get_or l (n - w) d ≤ d → get_or (replicate w at ++ l) n d ≤ d
inside-by w at l n d a h = go (dec_lt n w)
  where
    go : Dec (n < w) → get_or (replicate w at ++ l) n d ≤ d
    go (yes g) = omega (arith, among_them w at l n d g)
    go (no g) = omega (arith, behind_them w at l n d (omega arith))

inside-from : (k at : ℕ) (s : List ℕ) (n : ℕ) → get_or (places_from k at s) n (at + length s) ≤ at + length s
unfolding places_from
inside-from zero at [] n = omega arith
inside-from (suc k) at [] n = omega arith
inside-from (suc k) at (b ∷ s) n = let z : at + suc (length s) ≡ at + 1 + length s = omega arith in rw z (inside-from k (at + 1) s n)
inside-from zero at (b ∷ s) n =
    let w = length (octets_of (letter_of (b ∷ s))) in
    let k = took (b ∷ s) - 1 in
    let z : at + suc (length s) ≡ at + 1 + length s = omega arith in
    rw z (inside-by w at (places_from k (at + 1) s) n (at + 1 + length s) (omega arith) (inside-from k (at + 1) s (n - w)))

pub place_inside : (s : List ℕ) (k : ℕ) → place_of s k ≤ length s
unfolding place_of
place_inside s k = let z : 0 + length s ≡ length s = omega arith in rw z at (inside-from 0 0 s k)

-- Without a backslash.

plain-from : (at : ℕ) (s : List ℕ) (k : ℕ) → escaped s ≡ false → k ≤ length s → get_or (places_from 0 at s) k (at + length s) ≡ at + k
unfolding places_from escaped letter_of took
plain-from at [] k e h = omega arith
plain-from at (b ∷ s) zero e h = let p = or-none (eqb b 92) (escaped s) e in rw p.0 (omega arith)
plain-from at (b ∷ s) (suc k) e h =
    let p = or-none (eqb b 92) (escaped s) e in
    let z : at + suc (length s) ≡ at + 1 + length s = omega arith in
    let y : at + suc k ≡ at + 1 + k = omega arith in
    rw (p.0, z, y) (plain-from (at + 1) s k p.1 (omega arith))

pub plain-place : (s : List ℕ) (k : ℕ) → escaped s ≡ false → k ≤ length s → place_of s k ≡ k
unfolding place_of
plain-place s k e h =
    let z : 0 + length s ≡ length s = omega arith in
    let y : 0 + k ≡ k = omega arith in
    rw (z, y) at (plain-from 0 s k e h)

-- The first letter.

-- the bytes of a letter already met are passed
passed : (k at : ℕ) (s : List ℕ) → places_from k at s ≡ places_from 0 (at + k) (drop k s)
unfolding places_from
passed zero at s = let z : at + 0 ≡ at = omega arith in rw z
passed (suc k) at [] = refl
passed (suc k) at (b ∷ s) = let z : at + suc k ≡ at + 1 + k = omega arith in rw z (passed k (at + 1) s)

first : (b at : ℕ) (s : List ℕ)
    → places_from 0 at (b ∷ s) ≡ replicate (length (octets_of (letter_of (b ∷ s)))) at ++ places_from 0 (at + took (b ∷ s)) (drop (took (b ∷ s)) (b ∷ s))
unfolding places_from
first b at s =
    ap (λ (l : List ℕ). replicate (length (octets_of (letter_of (b ∷ s)))) at ++ l)
    (passed (took (b ∷ s) - 1) (at + 1) s ∙ rest (took (b ∷ s)) (took-some (b ∷ s) (omega arith)).0)
  where
    rest : (n : ℕ) → 1 ≤ n → places_from 0 (at + 1 + (n - 1)) (drop (n - 1) s) ≡ places_from 0 (at + n) (drop n (b ∷ s))
    rest zero h = absurd (omega arith)
    rest (suc n) h =
        let a : suc n - 1 ≡ n = omega arith in
        let z : at + suc n ≡ at + 1 + n = omega arith in
        rw (a, z)

-- The loop of `place_of`: i bytes are read, and n octets more are to be passed.

pub record Sofar (s : List ℕ) (k i n : ℕ) : Type 0 where
  pub inside : i ≤ length s
  pub is : place_of s k ≡ get_or (places_from 0 i (drop i s)) n (length s)

pub start : (s : List ℕ) (k : ℕ) → Sofar s k 0 k
unfolding place_of
start s k = record { inside = omega arith; is = refl }

module _ {s : List ℕ} {k i n : ℕ} (p : Sofar s k i n) where
  pub ends : length s ≤ i → i ≡ place_of s k
  unfolding places_from
  ends h =
      let e : place_of s k ≡ length s = p.is ∙ rw (drop_of_length-le s h) in
      omega (arith, p.inside)

  module _ (h : i < length s) where
    -- a letter of w octets and t bytes
    module _ (w t : ℕ) (e : places_from 0 i (drop i s) ≡ replicate w i ++ places_from 0 (i + t) (drop (i + t) s)) where
      stops : n < w → i ≡ place_of s k
      stops g = sym (p.is ∙ rw e (among_them w i (places_from 0 (i + t) (drop (i + t) s)) n (length s) g))

      goes_on : i + t ≤ length s → w ≤ n → Sofar s k (i + t) (n - w)
      goes_on f g = record { inside = f; is = p.is ∙ rw e (behind_them w i (places_from 0 (i + t) (drop (i + t) s)) n (length s) g) }

    module _ (ne : get_or s i 0 ≡ 92 → ⊥) where
      turn-own : places_from 0 i (drop i s) ≡ replicate 1 i ++ places_from 0 (i + 1) (drop (i + 1) s)
      unfolding letter_of took
      turn-own = rw (drop-cons s i 0 h) (first (get_or s i 0) i (drop (suc i) s) ∙ simp (ne_eqb (get_or s i 0) 92 ne, add-one i))

      pub own-stops : n ≡ 0 → i ≡ place_of s k
      own-stops z = stops 1 1 turn-own (omega arith)

      pub own-more : (n ≡ 0 → ⊥) → Sofar s k (i + 1) (n - 1)
      own-more z = goes_on 1 1 turn-own (omega arith) (omega arith)

    module _ (x : Escape) (f : x ≡ escape_of (drop i s)) (eq : get_or s i 0 ≡ 92) {w : ℕ} (is : w ≡ length (encoded x.code)) where
      turn-escape : places_from 0 i (drop i s) ≡ replicate w i ++ places_from 0 (i + x.took) (drop (i + x.took) s)
      unfolding letter_of took
      turn-escape =
          rw (is, f, ← drop-drop (escape_of (drop i s)).took i s, drop-cons s i 0 h)
          (first (get_or s i 0) i (drop (suc i) s) ∙ simp (eq-eqb (get_or s i 0) 92 eq))

      pub escape-stops : n < w → i ≡ place_of s k
      escape-stops g = stops w x.took turn-escape g

      pub escape-more : w ≤ n → Sofar s k (i + x.took) (n - w)
      escape-more g = goes_on w x.took turn-escape (escape-room s i h x f) g
