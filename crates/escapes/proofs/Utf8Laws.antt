-- Good UTF-8 stays good: the text of a string that is UTF-8 and not broken is UTF-8. Assumes nothing.
use Rattle.std.proofs.Common.{Ok}
use Prim.Native.Nat.{ℕ, zero, suc, ◌+◌, ◌-◌, ◌/◌, ◌≤◌, ◌<◌}
use Rattle.escapes.proofs.AsciiLaws.{Low, letter-ascii}
use Rattle.escapes.proofs.EncodingLaws.{Row, row, row_one, row-two, row-three, row-four, one, two, three, four}
use Rattle.escapes.proofs.LetterLaws.{sound}
use Rattle.escapes.specs.Encoding.{encoded, low}
use Rattle.escapes.specs.Rfc7159.{is_surrogate, escape_of, letter_of, took, letters_from, letters, is_lone, spelt, lone, text, is_broken}
use Rattle.octets.proofs.ClassLaws.{in_among}
use Rattle.octets.proofs.TestLaws.{clash, or-none}
use Rattle.octets.specs.Class.{among}
use Rattle.utf8.proofs.Join.{join, cut, anywhere}
use Rattle.utf8.proofs.Rows as rows
use Rattle.utf8.specs.Rfc3629.{◌to◌, tail, char, begins, goes_on, char_at, octets, verdict}
use borrow.Author.Tests.{eqb-true}
use lib.Dec.{eqb}
use mathlib.Core.Bool.{Bool, true, false}
use mathlib.Core.List.{List, [], ◌∷◌, ◌++◌, append_assoc}
use mathlib.Core.Path.{◌≡◌, refl}
use native.Mathlib.Decide.{dec_lt}
use native.Mathlib.Omega.{arith}

abbrev Fine : List ℕ → Type 0
Fine s = verdict s ≡ Ok tt

-- The octets of a number.

module _ (a : ℕ) where
  good-one : a < 0x80 → Fine (a ∷ [])
  unfolding octets char_at goes_on
  good-one h = rw (rows.one a h)

  good-two : (b : ℕ) → begins a ≡ char (tail ∷ []) → among 0x80 0xBF b ≡ true → Fine (a ∷ b ∷ [])
  unfolding octets char_at goes_on
  good-two b e f = rw (e, f)

  good-three : (lo hi b d : ℕ) → begins a ≡ char ((lo to hi) ∷ tail ∷ []) → among lo hi b ≡ true → among 0x80 0xBF d ≡ true → Fine (a ∷ b ∷ d ∷ [])
  unfolding octets char_at goes_on
  good-three lo hi b d e f g = rw (e, f, g)

  good-four : (lo hi b d f : ℕ) → begins a ≡ char ((lo to hi) ∷ tail ∷ tail ∷ []) → among lo hi b ≡ true → among 0x80 0xBF d ≡ true → among 0x80 0xBF f ≡ true
      → Fine (a ∷ b ∷ d ∷ f ∷ [])
  unfolding octets char_at goes_on
  good-four lo hi b d f e g h i = rw (e, g, h, i)

low-tail : (x : ℕ) → among 0x80 0xBF (low x) ≡ true
low-tail x = in_among 0x80 0xBF (low x) (omega arith) (omega arith)

module _ (c : ℕ) where
  encoded-two : 0x80 ≤ c → c < 0x800 → Fine (encoded c)
  encoded-two h k = rw (two c h k) (good-two (0xC0 + c / 64) (low c) (rows.two (0xC0 + c / 64) (omega arith) (omega arith)) (low-tail c))

  encoded-three : 0x800 ≤ c → c < 0x10000 → (0xD800 ≤ c → 0xDFFF < c) → Fine (encoded c)
  encoded-three h k n = rw (three c h k) (go (dec_lt c 0x1000) (dec_lt c 0xD000) (dec_lt c 0xD800) (dec_lt c 0xE000))
    where
      row_of : (lo hi : ℕ) → begins (0xE0 + c / 4096) ≡ char ((lo to hi) ∷ tail ∷ []) → among lo hi (low (c / 64)) ≡ true →
          Fine ((0xE0 + c / 4096) ∷ low (c / 64) ∷ low c ∷ [])
      row_of lo hi e f = good-three (0xE0 + c / 4096) lo hi (low (c / 64)) (low c) e f (low-tail c)

      go : Dec (c < 0x1000) → Dec (c < 0xD000) → Dec (c < 0xD800) → Dec (c < 0xE000) → Fine ((0xE0 + c / 4096) ∷ low (c / 64) ∷ low c ∷ [])
      go (yes a) _ _ _ = row_of 0xA0 0xBF (rows.three-E0 (0xE0 + c / 4096) (omega arith)) (in_among 0xA0 0xBF (low (c / 64)) (omega arith) (omega arith))
      go (no a) (yes b) _ _ = row_of 0x80 0xBF (rows.three (0xE0 + c / 4096) (omega arith) (omega arith) (λ z. omega arith) (λ z. omega arith)) (low-tail (c / 64))
      go (no a) (no b) (yes d) _ = row_of 0x80 0x9F (rows.three-ED (0xE0 + c / 4096) (omega arith)) (in_among 0x80 0x9F (low (c / 64)) (omega arith) (omega arith))
      go (no a) (no b) (no d) (yes e) = let q = n (omega arith) in absurd (omega arith)
      go (no a) (no b) (no d) (no e) = row_of 0x80 0xBF (rows.three (0xE0 + c / 4096) (omega arith) (omega arith) (λ z. omega arith) (λ z. omega arith)) (low-tail (c / 64))

  encoded-four : 0x10000 ≤ c → c < 0x110000 → Fine (encoded c)
  encoded-four h k = rw (four c h) (go (dec_lt c 0x40000) (dec_lt c 0x100000))
    where
      row_of : (lo hi : ℕ) → begins (0xF0 + c / 262144) ≡ char ((lo to hi) ∷ tail ∷ tail ∷ []) → among lo hi (low (c / 4096)) ≡ true →
          Fine ((0xF0 + c / 262144) ∷ low (c / 4096) ∷ low (c / 64) ∷ low c ∷ [])
      row_of lo hi e f = good-four (0xF0 + c / 262144) lo hi (low (c / 4096)) (low (c / 64)) (low c) e f (low-tail (c / 64)) (low-tail c)

      go : Dec (c < 0x40000) → Dec (c < 0x100000) → Fine ((0xF0 + c / 262144) ∷ low (c / 4096) ∷ low (c / 64) ∷ low c ∷ [])
      go (yes a) _ = row_of 0x90 0xBF (rows.four-F0 (0xF0 + c / 262144) (omega arith) (omega arith)) (in_among 0x90 0xBF (low (c / 4096)) (omega arith) (omega arith))
      go (no a) (yes b) = row_of 0x80 0xBF (rows.four (0xF0 + c / 262144) (omega arith) (λ e. omega arith) (omega arith)) (low-tail (c / 4096))
      go (no a) (no b) = row_of 0x80 0x8F (rows.four-F4 (0xF0 + c / 262144) (omega arith) (omega arith)) (in_among 0x80 0x8F (low (c / 4096)) (omega arith) (omega arith))

  not_surrogate : is_surrogate c ≡ false → 0xD800 ≤ c → 0xDFFF < c
  unfolding is_surrogate
  not_surrogate e h = go (dec_lt 0xDFFF c)
    where
      go : Dec (0xDFFF < c) → 0xDFFF < c
      go (yes a) = a
      go (no a) = clash (in_among 0xD800 0xDFFF c h (omega arith)) e

  -- the octets of a number that is no surrogate are UTF-8
  encoded-good : c < 0x110000 → is_surrogate c ≡ false → verdict (encoded c) ≡ Ok tt
  encoded-good l e = go (row c)
    where
      go : Row c → Fine (encoded c)
      go (row_one h) = rw (one c h) (good-one c h)
      go (row-two h k) = encoded-two h k
      go (row-three h k) = encoded-three h k (not_surrogate e)
      go (row-four h) = encoded-four h l

-- The bytes since the last escape are carried along: a good text is cut before a backslash, and joined again behind what it spells.

-- behind an ASCII byte a good text is good
ascii-tail : (b : ℕ) (s : List ℕ) → b < 0x80 → Fine (b ∷ s) → Fine s
unfolding octets char_at goes_on
ascii-tail b s h e = anywhere 0 1 0 s (rw (rows.one b h) at e)

-- what stands before: nothing, while an escape is being passed
abbrev front : ℕ → List ℕ → List ℕ
front zero p = p
front (suc k) p = []

front-nil : (k : ℕ) → front k [] ≡ []
front-nil zero = refl
front-nil (suc k) = refl

-- one letter: bytes p before it, b its first and s the others; what is behind it was shown good, after an own byte or an escape
one-letter : (b : ℕ) (p s : List ℕ) (t : Bool) → eqb b 92 ≡ t →
    (t ≡ false → took (b ∷ s) ≡ 1 → Fine ((p ++ (b ∷ [])) ++ spelt (letters_from (took (b ∷ s) - 1) s))) →
    (t ≡ true → Fine (spelt (letters_from (took (b ∷ s) - 1) s))) →
    Fine (p ++ (b ∷ s)) → lone (letters (b ∷ s)) ≡ false → Fine (p ++ spelt (letters (b ∷ s)))
unfolding letters_from spelt lone letter_of took
one-letter b p s false e f g v n = rw e (rw append_assoc at (rw e at (f refl (rw e))))
one-letter b p s true e f g v n =
    let q = eqb-true b 92 e in
    let r = cut b s (omega arith) p v in
    let c = (escape_of (b ∷ s)).code in
    let rest = spelt (letters_from ((escape_of (b ∷ s)).took - 1) s) in
    let m : is_surrogate c ≡ false = (or-none _ _ (rw e at n)).0 in
    rw e (join p (encoded c ++ rest) r.0 (join (encoded c) rest (encoded-good c (sound (b ∷ s) (omega arith)).number m) (rw e at (g refl))))

good-from : (k : ℕ) (p s : List ℕ) → Low k s → Fine (front k p ++ s) → lone (letters_from k s) ≡ false → Fine (front k p ++ spelt (letters_from k s))
unfolding letters_from spelt lone
good-from k p [] l v n = v
good-from (suc k) p (b ∷ s) l v n =
    let t = ascii-tail b s (l 0 (omega arith)) v in
    let f = front-nil k in
    let r = good-from k [] s (λ j h. l (suc j) (omega arith)) (rw f t) n in
    rw f at r
good-from zero p (b ∷ s) l v n =
    let m : lone (letters_from (took (b ∷ s) - 1) s) ≡ false = (or-none (is_lone (letter_of (b ∷ s))) (lone (letters_from (took (b ∷ s) - 1) s)) n).1 in
    one-letter b p s (eqb b 92) refl
    (λ e o. let z : took (b ∷ s) - 1 ≡ 0 = omega arith in
    rw z (good-from 0 (p ++ (b ∷ [])) s (λ j h. absurd (omega arith)) (rw append_assoc v) (rw z at m)))
    (λ e. let q = eqb-true b 92 e in
    let y = ascii-tail b s (omega arith) (cut b s (omega arith) p v).1 in
    let f = front-nil (took (b ∷ s) - 1) in
    let r = good-from (took (b ∷ s) - 1) [] s (λ j h. letter-ascii b s e (suc j) (omega arith)) (rw f y) m in
    rw f at r)
    v n

pub text-good : (s : List ℕ) → verdict s ≡ Ok tt → is_broken s ≡ false → verdict (text s) ≡ Ok tt
unfolding text is_broken
text-good s v n = good-from 0 [] s (λ j h. absurd (omega arith)) v n
