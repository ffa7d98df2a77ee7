-- One escape: a law for each way out of `src/reading.rt`, and what is so of every escape. Assumes nothing.
use Prim.Native.Nat.{ℕ, ◌+◌, ◌-◌, ◌*◌, ◌≤◌, ◌<◌}
use Rattle.escapes.specs.Rfc7159.{none, nibble, quad, unit, short, is_high, is_low, pair, esc, joined, escape_of}
use Rattle.escapes.specs.declared.reading.Escape.{Escape}
use Rattle.octets.proofs.ClassLaws.{among_in, among-high}
use Rattle.octets.proofs.TestLaws.{Either, and_parts, either, picked}
use Rattle.octets.specs.Class.{is_digit, among}
use borrow.Author.Tests.{lt-ltb, le-ltb, ltb-true, eq-eqb, ne_eqb}
use lib.Dec.{eqb, ltb}
use lib.ListN.{length, drop, get_or, get_or-eq_default, length-drop}
use lib.Seq.{get_or-drop, drop-drop}
use mathlib.Core.Bool.{true, false, ◌&&◌, and-false}
use mathlib.Core.List.{List}
use mathlib.Core.Logic.{inl, inr}
use mathlib.Core.Path.{◌≡◌, refl, sym}
use native.Mathlib.Decide.{dec_lt}
use native.Mathlib.Omega.{arith}

-- Four hex digits.

module _ (a b c d : ℕ) where
  pub quad-a : 16 ≤ a → none ≡ quad a b c d
  unfolding quad
  quad-a h = simp (le-ltb a 16 h)

  pub quad-b : a < 16 → 16 ≤ b → none ≡ quad a b c d
  unfolding quad
  quad-b h i = simp (lt-ltb a 16 h, le-ltb b 16 i)

  pub quad-c : a < 16 → b < 16 → 16 ≤ c → none ≡ quad a b c d
  unfolding quad
  quad-c h i j = simp (lt-ltb a 16 h, lt-ltb b 16 i, le-ltb c 16 j)

  pub quad-d : a < 16 → b < 16 → c < 16 → 16 ≤ d → none ≡ quad a b c d
  unfolding quad
  quad-d h i j k = simp (lt-ltb a 16 h, lt-ltb b 16 i, lt-ltb c 16 j, le-ltb d 16 k)

  pub quad_is : a < 16 → b < 16 → c < 16 → d < 16 → a * 4096 + b * 256 + c * 16 + d ≡ quad a b c d
  unfolding quad
  quad_is h i j k = simp (lt-ltb a 16 h, lt-ltb b 16 i, lt-ltb c 16 j, lt-ltb d 16 k)

-- A unit and the next.

pub high_in : (u : ℕ) → is_high u ≡ true → (0xD800 ≤ u) × (u ≤ 0xDBFF)
unfolding is_high
high_in u e = among_in 0xD800 0xDBFF u e

pub low_in : (v : ℕ) → is_low v ≡ true → (0xDC00 ≤ v) × (v ≤ 0xDFFF)
unfolding is_low
low_in v e = among_in 0xDC00 0xDFFF v e

module _ (u v : ℕ) where
  pub joined-pair : is_high u ≡ true → is_low v ≡ true → esc (pair u v) 12 ≡ joined u v
  unfolding joined
  joined-pair e f = rw (e, f)

  pub joined-first : is_high u ≡ false → esc u 6 ≡ joined u v
  unfolding joined
  joined-first e = rw e

  pub joined-second : is_low v ≡ false → esc u 6 ≡ joined u v
  unfolding joined
  joined-second e = rw (e, and-false (is_high u))

  -- no unit is no half
  pub joined-none : none ≤ v → esc u 6 ≡ joined u v
  unfolding is_low
  joined-none h = joined-second (among-high 0xDC00 0xDFFF v (omega arith) (omega arith))

  -- what is so of a unit by itself, and of a pair, is so of a unit and the next
  pub joined_by : (P : Escape → Type 0) → P (esc u 6) → (0xD800 ≤ u → u ≤ 0xDBFF → 0xDC00 ≤ v → v ≤ 0xDFFF → P (esc (pair u v) 12)) → P (joined u v)
  unfolding joined is_high is_low
  joined_by P p q = go (either (is_high u && is_low v))
    where
      go : Either (is_high u && is_low v) → P (joined u v)
      go (inl e) =
          let b = and_parts (is_high u) (is_low v) e in
          let h = among_in 0xD800 0xDBFF u b.0 in
          let l = among_in 0xDC00 0xDFFF v b.1 in
          rw e (q h.0 h.1 l.0 l.1)
      go (inr e) = rw e p

-- A unit at a place.

quad-none : (a b c : ℕ) → quad a b c 16 ≡ none
unfolding quad
quad-none a b c = rw (and-false (ltb c 16), and-false (ltb b 16), and-false (ltb a 16))

nib_zero : nibble 0 ≡ 16
unfolding nibble is_digit among
nib_zero = refl

-- a unit is six bytes
unit-few : (s : List ℕ) → length s < 6 → none ≡ unit s
unfolding unit
unit-few s h =
    let z : get_or s 5 0 ≡ 0 = get_or-eq_default s 0 {n = 5} (omega arith) in
    let q : quad (nibble (get_or s 2 0)) (nibble (get_or s 3 0)) (nibble (get_or s 4 0)) (nibble (get_or s 5 0)) ≡ none = rw (z, nib_zero) (quad-none _ _ _) in
    sym (picked (λ (n : ℕ). n ≡ none) (eqb (get_or s 0 0) 92 && eqb (get_or s 1 0) 117) q refl)

pub unit-there : (s : List ℕ) → unit s < none → 6 ≤ length s
unit-there s h = go (dec_lt (length s) 6)
  where
    go : Dec (length s < 6) → 6 ≤ length s
    go (yes a) = let e = unit-few s a in absurd (omega arith)
    go (no a) = omega arith

module _ (s : List ℕ) (i : ℕ) where
  pub unit-few-at : length s - i < 6 → none ≡ unit (drop i s)
  unit-few-at h = unit-few (drop i s) (rw length-drop h)

  pub unit-other-at : (get_or s i 0 ≡ 92 → ⊥) → none ≡ unit (drop i s)
  unfolding unit
  unit-other-at h = let z : i + 0 ≡ i = omega arith in simp (get_or-drop, z, ne_eqb (get_or s i 0) 92 h)

  pub unit-no-u-at : get_or s i 0 ≡ 92 → (get_or s (i + 1) 0 ≡ 117 → ⊥) → none ≡ unit (drop i s)
  unfolding unit
  unit-no-u-at e h = let z : i + 0 ≡ i = omega arith in simp (get_or-drop, z, eq-eqb (get_or s i 0) 92 e, ne_eqb (get_or s (i + 1) 0) 117 h)

  pub unit-is-at : get_or s i 0 ≡ 92 → get_or s (i + 1) 0 ≡ 117 →
      quad (nibble (get_or s (i + 2) 0)) (nibble (get_or s (i + 3) 0)) (nibble (get_or s (i + 4) 0)) (nibble (get_or s (i + 5) 0)) ≡ unit (drop i s)
  unfolding unit
  unit-is-at e f = let z : i + 0 ≡ i = omega arith in simp (get_or-drop, z, eq-eqb (get_or s i 0) 92 e, eq-eqb (get_or s (i + 1) 0) 117 f)

  -- of its four digits one is none
  pub unit-broken : get_or s i 0 ≡ 92 → get_or s (i + 1) 0 ≡ 117 →
      none ≡ quad (nibble (get_or s (i + 2) 0)) (nibble (get_or s (i + 3) 0)) (nibble (get_or s (i + 4) 0)) (nibble (get_or s (i + 5) 0)) → none ≤ unit (drop i s)
  unit-broken e f g = let h = unit-is-at e f in omega arith

-- An escape at the front.

short-zero : short 0 ≡ none
unfolding short
short-zero = refl

module _ (s : List ℕ) where
  -- a short one is two bytes
  pub short-there : short (get_or s 1 0) < none → 2 ≤ length s
  short-there h = go (dec_lt (length s) 2)
    where
      go : Dec (length s < 2) → 2 ≤ length s
      go (yes a) =
          let z : get_or s 1 0 ≡ 0 = get_or-eq_default s 0 {n = 1} (omega arith) in
          let q : short (get_or s 1 0) ≡ none = rw z short-zero in
          absurd (omega arith)
      go (no a) = omega arith

  pub escape-short : short (get_or s 1 0) < none → esc (short (get_or s 1 0)) 2 ≡ escape_of s
  unfolding escape_of
  escape-short h = simp (lt-ltb (short (get_or s 1 0)) none h)

  pub escape-unit : none ≤ short (get_or s 1 0) → unit s < none → joined (unit s) (unit (drop 6 s)) ≡ escape_of s
  unfolding escape_of
  escape-unit h k = simp (le-ltb (short (get_or s 1 0)) none h, lt-ltb (unit s) none k)

  pub escape-none : none ≤ short (get_or s 1 0) → none ≤ unit s → esc 92 1 ≡ escape_of s
  unfolding escape_of
  escape-none h k = simp (le-ltb (short (get_or s 1 0)) none h, le-ltb (unit s) none k)

  -- what is so of each kind of escape is so of the one at the front
  pub escape-by : (P : Escape → Type 0) → (short (get_or s 1 0) < none → P (esc (short (get_or s 1 0)) 2)) → (unit s < none → P (joined (unit s) (unit (drop 6 s)))) →
      P (esc 92 1) → P (escape_of s)
  unfolding escape_of
  escape-by P p q r = go (either (ltb (short (get_or s 1 0)) none)) (either (ltb (unit s) none))
    where
      go : Either (ltb (short (get_or s 1 0)) none) → Either (ltb (unit s) none) → P (escape_of s)
      go (inl e) _ = rw e (p (ltb-true _ none e))
      go (inr e) (inl f) = rw (e, f) (q (ltb-true _ none f))
      go (inr e) (inr f) = rw (e, f) r

-- And at a place.

module _ (s : List ℕ) (i : ℕ) where
  second : get_or (drop i s) 1 0 ≡ get_or s (i + 1) 0
  second = get_or-drop i s 1 0

  pub escape-last-at : length s - i < 2 → esc 92 1 ≡ escape_of (drop i s)
  escape-last-at h =
      let l : length (drop i s) < 2 = rw length-drop h in
      let z : get_or (drop i s) 1 0 ≡ 0 = get_or-eq_default (drop i s) 0 {n = 1} (omega arith) in
      let c : short (get_or (drop i s) 1 0) ≡ none = rw z short-zero in
      let u = unit-few (drop i s) (omega arith) in
      escape-none (drop i s) (omega arith) (omega arith)

  pub escape-short-at : (c : ℕ) → c ≡ short (get_or s (i + 1) 0) → c < none → esc c 2 ≡ escape_of (drop i s)
  escape-short-at c e h = rw (e, ← second) (escape-short (drop i s) (rw (second, ← e) h))

  pub escape-unit-at : (c u v : ℕ) → c ≡ short (get_or s (i + 1) 0) → none ≤ c → u ≡ unit (drop i s) → u < none → v ≡ unit (drop (i + 6) s) → joined u v ≡ escape_of (drop i s)
  escape-unit-at c u v e h f k g = rw (f, g, ← drop-drop 6 i s) (escape-unit (drop i s) (rw (second, ← e) h) (rw (← f) k))

  pub escape-none-at : (c u : ℕ) → c ≡ short (get_or s (i + 1) 0) → none ≤ c → u ≡ unit (drop i s) → none ≤ u → esc 92 1 ≡ escape_of (drop i s)
  escape-none-at c u e h f k = escape-none (drop i s) (rw (second, ← e) h) (rw (← f) k)

  pub unit-room : (u : ℕ) → u ≡ unit (drop i s) → u < none → i ≤ length s → i + 6 ≤ length s
  unit-room u e h l = let k = unit-there (drop i s) (rw (← e) h) in omega (arith, length-drop i s)
