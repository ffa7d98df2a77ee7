-- Leading zeros change no number, what was taken of a word tells whether it stands for bytes, and where a word ends. Assumes nothing.
use Rattle.std.proofs.Common.{None, Option, Some}
use Rattle.std.proofs.lemmas.Option.{cond_some, none-some}
use Prim.Native.Nat.{ℕ, zero, suc, ◌+◌, ◌-◌, ◌*◌, ◌/◌, ◌≤◌, ◌<◌}
use Rattle.hex_text.proofs.HexLaws.{length-decoded}
use Rattle.hex_text.specs.Digits.{decoded, is_hex}
use Rattle.octets.proofs.ClassLaws.{digit_in}
use Rattle.octets.proofs.DecimalLaws.{long}
use Rattle.octets.proofs.TextLaws.{before-within, same-eq}
use Rattle.octets.proofs.TestLaws.{and_parts, clash}
use Rattle.octets.specs.Ascii.{ascii}
use Rattle.octets.specs.Class.{all, among, is_digit}
use Rattle.octets.specs.Decimal.{decimal_in, decimal_of, is_decimal, tens}
use Rattle.octets.specs.Splice.{splice}
use Rattle.octets.specs.Text.{before}
use Rattle.octets.proofs.Chain.{take-splice}
use Rattle.showing.specs.Words.{hex_bytes, first_word, has_space, is_hex_to, is_none, numeral, rest, value_to}
use Rattle.showing.specs.inner.Got.{Got}
use borrow.Author.Tests.{le-leb, le-ltb, leb-true}
use lib.Dec.{leb, ltb}
use lib.ListN.{drop, drop_of_length-le, get_or, length, length-drop, take}
use lib.Seq.{drop-cons, take_all, take-nil}
use mathlib.Core.Bool.{Bool, true, false, ◌&&◌, cond}
use mathlib.Core.List.{List, [], ◌∷◌, ◌++◌}
use mathlib.Core.Path.{◌≡◌, ap, refl, sym, ◌∙◌}
use native.Mathlib.Numerals.{add-one}
use native.Mathlib.Omega.{arith}

-- m with n zeros behind it
unfoldable raised : ℕ → ℕ → ℕ
raised zero m = m
raised (suc n) m = raised n (m * 10)

-- n digits more make a number at least as large as n zeros would
tens-high : (n m v : ℕ) (s : List ℕ) → m ≤ v → n ≤ length s → raised n m ≤ tens v s
unfolding raised tens
tens-high zero m v [] p q = p
tens-high zero m v (x ∷ s) p q = tens-high zero m (v * 10 + (x - 48)) s (omega arith) (omega arith)
tens-high (suc n) m v [] p q = absurd (omega arith)
tens-high (suc n) m v (x ∷ s) p q = tens-high n (m * 10) (v * 10 + (x - 48)) s (omega arith) (omega arith)

tens-large : (v : ℕ) (s : List ℕ) → 1 ≤ v → 20 ≤ length s → 100000000000000000000 ≤ tens v s
unfolding raised
tens-large v s p q = tens-high 20 1 v s p q

-- at most 20 digits are read alike
few : (w : List ℕ) → length w ≤ 20 → decimal_in w ≡ numeral w
unfolding decimal_in is_decimal numeral
few w h = simp (le-leb (length w) 20 h)

-- a leading zero is passed
skips : (s : List ℕ) → 1 ≤ length s → numeral (48 ∷ s) ≡ numeral s
unfolding numeral all is_digit among tens
skips s h = simp (le-leb 1 (length s) h, le-leb 1 (suc (length s)) (omega arith))

-- what is refused for a byte that is no digit, or for its size
refused : (w : List ℕ) (b : Bool) → 1 ≤ length w → all is_digit w ≡ b → ltb (decimal_of w) 18446744073709551616 ≡ false → None ≡ numeral w
unfolding numeral
refused w true h e g = simp (le-leb 1 (length w) h, e, g)
refused w false h e g = simp (le-leb 1 (length w) h, e)

no_digit : (x : ℕ) (s : List ℕ) → is_digit x ≡ false → None ≡ numeral (x ∷ s)
unfolding numeral all
no_digit x s e = simp (e, le-leb 1 (suc (length s)) (omega arith))

-- more than 20 digits that begin with no zero are no number of 64 bits
digits-large : (x : ℕ) (s : List ℕ) → is_digit x ≡ true → (x ≡ 48 → ⊥) → 20 ≤ length s → ltb (decimal_of (x ∷ s)) 18446744073709551616 ≡ false
unfolding tens
digits-large x s e n h =
    let d = digit_in x e in
    let k : 49 ≤ x = omega (arith, n) in
    let t = tens-large (0 * 10 + (x - 48)) s (omega arith) h in
    le-ltb (tens (0 * 10 + (x - 48)) s) 18446744073709551616 (omega arith)

large : (x : ℕ) (s : List ℕ) → (x ≡ 48 → ⊥) → 20 ≤ length s → decimal_in (x ∷ s) ≡ numeral (x ∷ s)
large x s n h = sym (long (x ∷ s) (omega arith)) ∙ go (is_digit x) refl
  where
    go : (b : Bool) → is_digit x ≡ b → None ≡ numeral (x ∷ s)
    go true e = refused (x ∷ s) (all is_digit (x ∷ s)) (omega arith) refl (digits-large x s e n h)
    go false e = no_digit x s e

-- Zeros passed: what is left from byte i on says what the word says.

pub passes : (w : List ℕ) (i : ℕ) → i + 20 < length w → get_or w i 0 ≡ 48 → numeral (drop i w) ≡ numeral w → numeral (drop (i + 1) w) ≡ numeral w
passes w i h e p =
    let k : i < length w = omega arith in
    let l : 1 ≤ length (drop (suc i) w) = rw length-drop (omega arith) in
    rw add-one (sym (skips (drop (suc i) w) l) ∙ rw (← e, ← drop-cons w i 0 k) p)

pub stops : (w : List ℕ) (i : ℕ) → i + 20 < length w → (get_or w i 0 ≡ 48 → ⊥) → numeral (drop i w) ≡ numeral w → decimal_in (drop i w) ≡ numeral w
stops w i h n p =
    let k : i < length w = omega arith in
    let l : 20 ≤ length (drop (suc i) w) = rw length-drop (omega arith) in
    ap decimal_in (drop-cons w i 0 k) ∙ large (get_or w i 0) (drop (suc i) w) n l ∙ sym (ap numeral (drop-cons w i 0 k)) ∙ p

pub ends : (w : List ℕ) (i : ℕ) → length w ≤ i + 20 → numeral (drop i w) ≡ numeral w → decimal_in (drop i w) ≡ numeral w
ends w i h p = few (drop i w) (rw length-drop (omega arith)) ∙ p

-- the same of the part that the code reads
pub numeral-is : (w : List ℕ) (from : ℕ) → decimal_in (drop from w) ≡ numeral w → decimal_in (take (length w - from) (drop from w)) ≡ numeral w
numeral-is w from e =
    let d : take (length w - from) (drop from w) ≡ drop from w = take_all (length w - from) (drop from w) (rw length-drop (omega arith)) in
    rw d e

-- Words that stand for bytes.

none-decoded : decoded (ascii "-") ≡ []
unfolding decoded
none-decoded = refl

-- what decoding gives: `-` is no pair of digits
pub stands : (w : List ℕ) → decoded w ≡ hex_bytes w
unfolding hex_bytes
stands w = go (is_none w) refl
  where
    go : (b : Bool) → is_none w ≡ b → decoded w ≡ cond b [] (decoded w)
    go true e = ap decoded (same-eq w (ascii "-") e) ∙ none-decoded
    go false e = refl

pub stands-length : (w : List ℕ) → length (hex_bytes w) ≡ length w / 2
stands-length w = rw (← stands w) (length-decoded w)

-- the digits are at most so many
pub hex-short : (most : ℕ) (w : List ℕ) → 1 ≤ most → is_hex_to most w ≡ true → length w ≤ most
unfolding is_hex_to
hex-short most w h e = go (is_none w) refl
  where
    go : (b : Bool) → is_none w ≡ b → length w ≤ most
    go true q = rw (same-eq w (ascii "-") q) h
    go false q =
        let p = and_parts (leb 1 (length w)) (leb (length w) most && is_hex w) (rw q at e) in
        leb-true (length w) most (and_parts (leb (length w) most) (is_hex w) p.1).0

-- a word has two characters for a byte
pub half : (w : List ℕ) → 2 * length (hex_bytes w) ≤ length w
half w = omega (arith, stands-length w)

-- A number up to a limit is no larger.
pub to-small : (most : ℕ) (o : Option ℕ) {n : ℕ} → value_to most o ≡ Some n → n ≤ most
to-small most (Some m) {n} e = let p = cond_some (leb m most) m n e in omega (arith, leb-true m most p.0, p.1)
to-small most None {n} e = absurd (none-some n e)

-- What `take_bytes` answers.

some-is : {a b : ℕ} → Some a ≡ Some b → a ≡ b
some-is e = cc

pub got_none : {t : Bool} {b : List ℕ} {at : ℕ} {w : List ℕ} → t ≡ false → Got t b at w None b
got_none {t} e = record { good = λ g. clash g e; bad = λ g. (refl, refl) }

pub got_some : (b : List ℕ) (at : ℕ) (w : List ℕ) {t : Bool} {r : ℕ} {b' : List ℕ} → t ≡ true → (r ≡ at + length w) × (b' ≡ splice b at w) → Got t b at w (Some r) b'
got_some b at w {t} g x = record { good = λ _. (ap Some x.0, x.1); bad = λ f. clash g f }

-- whether the test was met is told by the answer
pub got_true : (t : Bool) {b : List ℕ} {at : ℕ} {w : List ℕ} {o : Option ℕ} {r : ℕ} {b' : List ℕ} → Got t b at w o b' → o ≡ Some r → t ≡ true
got_true true x e = refl
got_true false {r = r} x e = absurd (none-some r (sym (x.bad refl).0 ∙ e))

pub got_false : (t : Bool) {b : List ℕ} {at : ℕ} {w : List ℕ} {o : Option ℕ} {b' : List ℕ} → Got t b at w o b' → o ≡ None → t ≡ false
got_false true {at = at} {w = w} x e = absurd (none-some (at + length w) (sym e ∙ (x.good refl).0))
got_false false x e = refl

pub got_place : {t : Bool} {b : List ℕ} {at : ℕ} {w : List ℕ} {o : Option ℕ} {r : ℕ} {b' : List ℕ} → Got t b at w o b' → t ≡ true → o ≡ Some r
    → (r ≡ at + length w) × (b' ≡ splice b at w)
got_place {at = at} {w = w} {r = r} x t e = let g = x.good t in (some-is (sym e ∙ g.0), g.1)

-- what stands before that place
pub got_front : {t : Bool} {b : List ℕ} {at : ℕ} {w : List ℕ} {o : Option ℕ} {r : ℕ} {b' : List ℕ} → Got t b at w o b' → t ≡ true → o ≡ Some r → at ≤ length b
    → take r b' ≡ take at b ++ w
got_front {b = b} {at = at} {w = w} x t e m = let g = got_place x t e in rw (g.0, g.1) (take-splice b at w m)

-- the bytes of a word that was taken alone
pub got_alone : (t : Bool) {b : List ℕ} {w : List ℕ} {o : Option ℕ} {r : ℕ} {b' : List ℕ} → Got t b 0 w o b' → o ≡ Some r → take r b' ≡ w
got_alone t x e = got_front x (got_true t x e) e (omega arith)

-- Finding the first space: r is the place that is found.

module _ (s : List ℕ) {r : ℕ} (e : r ≡ 0 + before 32 s) where
  found : r ≡ before 32 s
  found = omega arith

  pub found-short : r ≤ length s
  found-short = omega (arith, before-within 32 s)

  pub space_found : ltb r (length s) ≡ has_space s
  space_found = rw found

  pub first_found : take (r - 0) s ≡ first_word s
  first_found = let z : r - 0 ≡ before 32 s = omega arith in rw z

  pub rest-found : take (length s - (r + 1)) (drop (r + 1) s) ≡ rest s
  rest-found = take_all (length s - (r + 1)) (drop (r + 1) s) (rw length-drop (omega arith)) ∙ rw found

  pub rest-none : length s ≤ r → take (length s - r) (drop r s) ≡ rest s
  rest-none h =
      let a : drop r s ≡ [] = drop_of_length-le s h in
      let b : drop (before 32 s + 1) s ≡ [] = drop_of_length-le s {i = before 32 s + 1} (omega arith) in
      rw (a, b) (take-nil (length s - r))

pub rest-short : (words : List ℕ) → length (rest words) ≤ length words
rest-short words = omega (arith, length-drop (before 32 words + 1) words)
