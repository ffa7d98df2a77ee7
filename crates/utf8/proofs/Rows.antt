-- The rows of the RFC's syntax, one law a row, and a sequence's bytes one at a time. Assumes nothing.
use Prim.Native.Nat.{ℕ, zero, suc, ◌+◌, ◌≤◌, ◌<◌}
use Rattle.octets.proofs.ClassLaws.{in_among, among-low, among-high, among_in}
use Rattle.octets.proofs.TestLaws.{and_parts}
use Rattle.octets.specs.Class.{among}
use Rattle.utf8.specs.Rfc3629.{Bounds, ◌to◌, tail, char, none, begins, goes_on, counted, char_of, char_at}
use Rattle.std.proofs.Common.{None, Some}
use Rattle.std.specs.Bool.{then_some}
use Rattle.utf8.specs.inner.Sized.{sized}
use lib.ListN.{length, drop, get_or, drop_of_length-le, get_or-eq_default}
use lib.Seq.{drop-cons}
use mathlib.Core.Bool.{Bool, true, false, ◌&&◌, cond, and-true}
use mathlib.Core.List.{List, [], ◌∷◌}
use mathlib.Core.Path.{◌≡◌, refl, sym, ◌∙◌}
use native.Mathlib.Decide.{dec_lt}
use native.Mathlib.Numerals.{add-one}
use native.Mathlib.Omega.{arith}

-- b stands past the row lo to hi
past : (lo hi : ℕ) {b : ℕ} → lo ≤ hi → hi < b → among lo hi b ≡ false
past lo hi {b} h k = among-high lo hi b (omega arith) k

module _ (b : ℕ) where
  pub one : b < 0x80 → begins b ≡ char []
  unfolding begins
  one h = simp (in_among 0 0x7F b (omega arith) (omega arith))

  -- past UTF8-1
  past_one : 0x80 ≤ b → among 0 0x7F b ≡ false
  past_one h = past 0 0x7F (omega arith) (omega arith)

  pub lone : 0x80 ≤ b → b < 0xC2 → begins b ≡ none
  unfolding begins
  lone h k =
      simp (
        past_one h,
        among-low 0xC2 0xDF b k,
        among-low 0xE0 0xE0 b (omega arith),
        among-low 0xE1 0xEC b (omega arith),
        among-low 0xED 0xED b (omega arith),
        among-low 0xEE 0xEF b (omega arith),
        among-low 0xF0 0xF0 b (omega arith),
        among-low 0xF1 0xF3 b (omega arith),
        among-low 0xF4 0xF4 b (omega arith),
      )

  pub two : 0xC2 ≤ b → b < 0xE0 → begins b ≡ char (tail ∷ [])
  unfolding begins
  two h k = simp (past_one (omega arith), in_among 0xC2 0xDF b h (omega arith))

  -- past UTF8-2
  past_two : 0xE0 ≤ b → among 0xC2 0xDF b ≡ false
  past_two h = past 0xC2 0xDF (omega arith) (omega arith)

  pub three-E0 : b ≡ 0xE0 → begins b ≡ char ((0xA0 to 0xBF) ∷ tail ∷ [])
  unfolding begins
  three-E0 e = simp (past_one (omega arith), past_two (omega arith), in_among 0xE0 0xE0 b (omega arith) (omega arith))

  pub three-ED : b ≡ 0xED → begins b ≡ char ((0x80 to 0x9F) ∷ tail ∷ [])
  unfolding begins
  three-ED e =
      simp (
        past_one (omega arith),
        past_two (omega arith),
        past 0xE0 0xE0 {b = b} (omega arith) (omega arith),
        past 0xE1 0xEC {b = b} (omega arith) (omega arith),
        in_among 0xED 0xED b (omega arith) (omega arith),
      )

  pub three : 0xE0 ≤ b → b < 0xF0 → (b ≡ 0xE0 → ⊥) → (b ≡ 0xED → ⊥) → begins b ≡ char (tail ∷ tail ∷ [])
  unfolding begins
  three h k f g = go (dec_lt b 0xED)
    where
      go : Dec (b < 0xED) → begins b ≡ char (tail ∷ tail ∷ [])
      go (yes a) = simp (past_one (omega arith), past_two h, past 0xE0 0xE0 {b = b} (omega arith) (omega arith), in_among 0xE1 0xEC b (omega arith) (omega arith))
      go (no a) =
          simp (
            past_one (omega arith),
            past_two h,
            past 0xE0 0xE0 {b = b} (omega arith) (omega arith),
            past 0xE1 0xEC {b = b} (omega arith) (omega arith),
            past 0xED 0xED {b = b} (omega arith) (omega arith),
            in_among 0xEE 0xEF b (omega arith) (omega arith),
          )

  -- past UTF8-3
  module _ (h : 0xF0 ≤ b) where
    past-E0 : among 0xE0 0xE0 b ≡ false
    past-E0 = past 0xE0 0xE0 (omega arith) (omega arith)

    past-EC : among 0xE1 0xEC b ≡ false
    past-EC = past 0xE1 0xEC (omega arith) (omega arith)

    past-ED : among 0xED 0xED b ≡ false
    past-ED = past 0xED 0xED (omega arith) (omega arith)

    past-EF : among 0xEE 0xEF b ≡ false
    past-EF = past 0xEE 0xEF (omega arith) (omega arith)

    -- what is left of the syntax
    pub from-F0 : begins b
        ≡ cond (among 0xF0 0xF0 b) (char ((0x90 to 0xBF) ∷ tail ∷ tail ∷ []))
        (cond (among 0xF1 0xF3 b) (char (tail ∷ tail ∷ tail ∷ []))
        (cond (among 0xF4 0xF4 b) (char ((0x80 to 0x8F) ∷ tail ∷ tail ∷ [])) none))
    unfolding begins
    from-F0 = simp (past_one (omega arith), past_two (omega arith), past-E0, past-EC, past-ED, past-EF)

    pub four-F0 : b ≡ 0xF0 → begins b ≡ char ((0x90 to 0xBF) ∷ tail ∷ tail ∷ [])
    four-F0 e = from-F0 ∙ simp (in_among 0xF0 0xF0 b (omega arith) (omega arith))

    pub four : (b ≡ 0xF0 → ⊥) → b < 0xF4 → begins b ≡ char (tail ∷ tail ∷ tail ∷ [])
    four f k = from-F0 ∙ simp (past 0xF0 0xF0 {b = b} (omega arith) (omega arith), in_among 0xF1 0xF3 b (omega arith) (omega arith))

    pub four-F4 : b ≡ 0xF4 → begins b ≡ char ((0x80 to 0x8F) ∷ tail ∷ tail ∷ [])
    four-F4 e = from-F0 ∙ simp (
      past 0xF0 0xF0 {b = b} (omega arith) (omega arith),
      past 0xF1 0xF3 {b = b} (omega arith) (omega arith),
      in_among 0xF4 0xF4 b (omega arith) (omega arith),
    )

    pub beyond : 0xF4 ≤ b → (b ≡ 0xF4 → ⊥) → begins b ≡ none
    beyond k f = from-F0 ∙ simp (
      past 0xF0 0xF0 {b = b} (omega arith) (omega arith),
      past 0xF1 0xF3 {b = b} (omega arith) (omega arith),
      past 0xF4 0xF4 {b = b} (omega arith) (omega arith),
    )

-- a byte of a range that begins above 0 stands inside the text
pub inside : (s : List ℕ) (i lo hi : ℕ) → 0 < lo → among lo hi (get_or s i 0) ≡ true → i < length s
inside s i lo hi h e = go (dec_lt i (length s))
  where
    go : Dec (i < length s) → i < length s
    go (yes a) = a
    go (no a) =
        let z : get_or s i 0 ≡ 0 = get_or-eq_default s 0 {n = i} (omega arith) in
        let k = (among_in lo hi (get_or s i 0) e).0 in
        absurd (omega arith)

-- one byte of a sequence, by the byte at its place
goes-here : (r : Bounds) (rs : List Bounds) (s : List ℕ) (i : ℕ) → i < length s
    → goes_on (r ∷ rs) (drop i s) ≡ (among r.low r.high (get_or s i 0) && goes_on rs (drop (i + 1) s))
unfolding goes_on
goes-here r rs s i h = rw (add-one, drop-cons s i 0)

-- the same at any place: a byte is 0 past the end
pub goes-more : (r : Bounds) (rs : List Bounds) (s : List ℕ) (i : ℕ) → 0 < r.low
    → goes_on (r ∷ rs) (drop i s) ≡ (among r.low r.high (get_or s i 0) && goes_on rs (drop (i + 1) s))
unfolding goes_on
goes-more r rs s i h = go (dec_lt i (length s))
  where
    go : Dec (i < length s) → goes_on (r ∷ rs) (drop i s) ≡ (among r.low r.high (get_or s i 0) && goes_on rs (drop (i + 1) s))
    go (yes a) = goes-here r rs s i a
    go (no a) =
        let d : drop i s ≡ [] = drop_of_length-le s {i = i} (omega arith) in
        let z : get_or s i 0 ≡ 0 = get_or-eq_default s 0 {n = i} (omega arith) in
        rw (d, z, among-low r.low r.high 0 h)

module _ (lo hi : ℕ) (rs : List Bounds) (s : List ℕ) (i : ℕ) (h : 0 < lo) where
  pub goes_on_lem : (j : ℕ) → j ≡ i + 1 → among lo hi (get_or s i 0) ≡ true → goes_on ((lo to hi) ∷ rs) (drop i s) ≡ goes_on rs (drop j s)
  goes_on_lem j e f = goes-more (lo to hi) rs s i h ∙ rw (f, e)

  pub stops : (n : ℕ) → among lo hi (get_or s i 0) ≡ false → 0 ≡ counted (goes_on ((lo to hi) ∷ rs) (drop i s)) n
  stops n f = rw (goes-more (lo to hi) rs s i h, f)

pub last : (lo hi : ℕ) (s : List ℕ) (i : ℕ) → 0 < lo → among lo hi (get_or s i 0) ≡ goes_on ((lo to hi) ∷ []) (drop i s)
unfolding goes_on
last lo hi s i h = sym (goes-more (lo to hi) [] s i h ∙ and-true (among lo hi (get_or s i 0)))

-- what the code answers by a test of the last byte
pub whole : (t : Bool) (n : ℕ) → then_some t (suc n) ≡ sized (counted t (suc n))
whole true n = refl
whole false n = refl

pub sized-some : {n : ℕ} (m : ℕ) → Some n ≡ sized m → (n ≡ m) × (n ≡ 0 → ⊥)
sized-some zero e = cc
sized-some {n} (suc k) e = let q : n ≡ suc k = cc in (q, λ f. omega (arith, q, f))

pub sized-none : (m : ℕ) → None ≡ sized m → 0 ≡ m
sized-none zero e = refl
sized-none (suc k) e = cc

-- the character at a place, by its first byte
pub char-here : (s : List ℕ) (i : ℕ) → i < length s → char_at (drop i s) ≡ char_of (begins (get_or s i 0)) (drop (i + 1) s)
unfolding char_at
char-here s i h = rw (add-one, drop-cons s i 0)

module _ (from till lo hi : ℕ) (s : List ℕ) (i : ℕ) (h : i + 3 ≤ length s) where
  -- three bytes of a row
  pub three-bytes : (among from till (get_or s i 0) && (among lo hi (get_or s (i + 1) 0) && among 0x80 0xBF (get_or s (i + 2) 0)))
      ≡ goes_on ((from to till) ∷ (lo to hi) ∷ tail ∷ []) (drop i s)
  three-bytes =
      let e : i + 1 + 1 ≡ i + 2 = omega arith in
      sym (goes-here (from to till) ((lo to hi) ∷ tail ∷ []) s i (omega arith)
      ∙ rw (goes-here (lo to hi) (tail ∷ []) s (i + 1) (omega arith), e, sym (last 0x80 0xBF s (i + 2) (omega arith))))

  -- they are a char where the row is one of the syntax
  pub three-char : ((b : ℕ) → from ≤ b → b ≤ till → begins b ≡ char ((lo to hi) ∷ tail ∷ []))
      → {t : Bool} → t ≡ goes_on ((from to till) ∷ (lo to hi) ∷ tail ∷ []) (drop i s) → t ≡ true → 3 ≡ char_at (drop i s)
  three-char f e g =
      let b : ℕ = get_or s i 0 in
      let p = and_parts (among from till b) (goes_on ((lo to hi) ∷ tail ∷ []) (drop (i + 1) s))
      (sym (goes-here (from to till) ((lo to hi) ∷ tail ∷ []) s i (omega arith)) ∙ sym e ∙ g) in
      let a = among_in from till b p.0 in
      sym (char-here s i (omega arith) ∙ rw (f b a.0 a.1, p.1))
