-- Decimal digits: the steps of the loop that reads them and of the function that writes them, and that what is written is read back.
-- Assumes nothing.
use Prim.Native.Nat.{ℕ, zero, suc, ◌+◌, ◌-◌, ◌*◌, ◌/◌, ◌%◌, ◌≤◌, ◌<◌}
use Rattle.octets.proofs.Chain.{length-splice, set-one, splice-two}
use Rattle.octets.proofs.ClassLaws.{all_append, in_among}
use Rattle.octets.specs.Class.{all, is_digit}
use Rattle.octets.specs.Decimal.{tens, decimal_of, is_decimal, decimal_in, shown_in, shown}
use Rattle.octets.specs.Splice.{splice}
use Rattle.std.proofs.Common.{None, Some}
use borrow.Author.Tests.{lt-ltb, le-ltb, le-leb, lt-leb}
use lib.Dec.{ltb}
use lib.ListN.{length, drop, get_or, set, length-append, drop_of_length-le}
use lib.Seq.{drop-cons}
use mathlib.Core.Bool.{Bool, true, false}
use mathlib.Core.List.{List, [], ◌∷◌, ◌++◌}
use mathlib.Core.Path.{◌≡◌, refl, sym, ap, ◌∙◌}
use native.Mathlib.Decide.{dec_lt}
use native.Mathlib.Numerals.{add-one}
use native.Mathlib.Omega.{arith}

-- Reading, from byte i on with v read so far.

-- a digit more
pub tens-more : (v : ℕ) (s : List ℕ) (i : ℕ) → i < length s → tens v (drop i s) ≡ tens (v * 10 + (get_or s i 0 - 48)) (drop (i + 1) s)
unfolding tens
tens-more v s i h = rw (add-one, drop-cons s i 0)

pub tens-ends : (v : ℕ) (s : List ℕ) (i : ℕ) → length s ≤ i → tens v (drop i s) ≡ v
unfolding tens
tens-ends v s i h = rw (drop_of_length-le s h)

-- more digits never make the number smaller
tens_grows : (v : ℕ) (s : List ℕ) → v ≤ tens v s
unfolding tens
tens_grows v [] = omega arith
tens_grows v (x ∷ s) = let h = tens_grows (v * 10 + (x - 48)) s in omega arith

-- Each answer of `decimal`.

refused : (s : List ℕ) → is_decimal s ≡ false → None ≡ decimal_in s
unfolding decimal_in
refused s e = simp e

pub empty : (s : List ℕ) → length s ≡ 0 → None ≡ decimal_in s
unfolding is_decimal
empty s e = refused s (simp (lt-leb 1 (length s) (omega arith)))

pub long : (s : List ℕ) → 20 < length s → None ≡ decimal_in s
unfolding is_decimal
long s h = refused s (simp (le-leb 1 (length s) (omega arith), lt-leb (length s) 20 h))

module _ (s : List ℕ) (low : 1 ≤ length s) (high : length s ≤ 20) where
  pub no_digit : all is_digit s ≡ false → None ≡ decimal_in s
  unfolding is_decimal
  no_digit e = refused s (simp (le-leb 1 (length s) low, le-leb (length s) 20 high, e))

  judged : (b : Bool) → all is_digit s ≡ b → ltb (decimal_of s) 18446744073709551616 ≡ false → None ≡ decimal_in s
  unfolding is_decimal
  judged true e g = refused s (simp (le-leb 1 (length s) low, le-leb (length s) 20 high, e, g))
  judged false e g = no_digit e

  -- from byte i on the number is too large already
  pub too_large : (i v : ℕ) → i < length s → decimal_of s ≡ tens v (drop i s) → 18446744073709551616 ≤ v * 10 + (get_or s i 0 - 48) → None ≡ decimal_in s
  too_large i v h e g =
      let k : v * 10 + (get_or s i 0 - 48) ≤ decimal_of s = rw (e, tens-more v s i h) (tens_grows _ (drop (i + 1) s)) in
      judged (all is_digit s) refl (le-ltb (decimal_of s) 18446744073709551616 (omega arith))

  pub read : (v : ℕ) → all is_digit s ≡ true → decimal_of s ≡ v → v < 18446744073709551616 → Some v ≡ decimal_in s
  unfolding decimal_in is_decimal
  read v d e h = simp (e, le-leb 1 (length s) low, le-leb (length s) 20 high, d, lt-ltb v 18446744073709551616 h)

-- Writing.

-- 10 to the n
unfoldable ten_to : ℕ → ℕ
ten_to zero = 1
ten_to (suc n) = 10 * ten_to n

-- more room for digits alters nothing
enough : (n v : ℕ) → v < ten_to (suc n) → shown_in (suc n) v ≡ shown_in (suc (suc n)) v
unfolding shown_in ten_to
enough zero v h = simp (lt-ltb v 10 (omega arith))
enough (suc n) v h = go (dec_lt v 10) (λ a. enough n (v / 10) (omega arith))
  where
    go : Dec (v < 10) → (10 ≤ v → shown_in (suc n) (v / 10) ≡ shown_in (suc (suc n)) (v / 10)) → shown_in (suc (suc n)) v ≡ shown_in (suc (suc (suc n))) v
    go (yes a) shorter = simp (lt-ltb v 10 a)
    go (no a) shorter = simp (le-ltb v 10 (omega arith)) (ap (λ (s : List ℕ). s ++ ((48 + v % 10) ∷ [])) (shorter (omega arith)))

pub shown-small : (v : ℕ) → v < 10 → shown v ≡ (48 + v) ∷ []
unfolding shown shown_in
shown-small v h = simp (lt-ltb v 10 h)

-- a number of 64 bits without its last digit has at most 19
nineteen : (v : ℕ) → v < 18446744073709551616 → v / 10 < ten_to 19
unfolding ten_to
nineteen v h = omega arith

last-digit : (n v : ℕ) → 10 ≤ v → shown_in (suc n) v ≡ shown_in n (v / 10) ++ ((48 + v % 10) ∷ [])
unfolding shown_in
last-digit n v h = simp (le-ltb v 10 h)

pub shown-large : (v : ℕ) → 10 ≤ v → v < 18446744073709551616 → shown v ≡ shown (v / 10) ++ ((48 + v % 10) ∷ [])
unfolding shown
shown-large v h g = last-digit 19 v h ∙ ap (λ (s : List ℕ). s ++ ((48 + v % 10) ∷ [])) (enough 18 (v / 10) (nineteen v g))

pub length-small : (v : ℕ) → v < 10 → length (shown v) ≡ 1
length-small v h = ap length (shown-small v h)

pub length-large : (v : ℕ) → 10 ≤ v → v < 18446744073709551616 → length (shown v) ≡ length (shown (v / 10)) + 1
length-large v h g = ap length (shown-large v h g) ∙ length-append (shown (v / 10)) ((48 + v % 10) ∷ [])

-- behind the digits of v / 10 there is room for the last, and with it those of v are written
pub digit-behind : (o : List ℕ) (at v : ℕ) {o' : List ℕ} {r : ℕ} → 10 ≤ v → v < 18446744073709551616 → at + length (shown v) ≤ length o
    → (r ≡ at + length (shown (v / 10))) × (o' ≡ splice o at (shown (v / 10)))
    → (r < length o') × ((r + 1 ≡ at + length (shown v)) × (set o' r (48 + v % 10) ≡ splice o at (shown v)))
digit-behind o at v {o'} {r} h g room e =
    let p : List ℕ = shown (v / 10) in
    let x : List ℕ = (48 + v % 10) ∷ [] in
    let l = length-large v h g in
    let k : length o' ≡ length o = ap length e.1 ∙ length-splice o at p (omega arith) in (
      omega (arith, e.0),
      (
        omega (arith, e.0),
        set-one o' r (48 + v % 10) (omega (arith, e.0))
            ∙ rw (e.0, e.1) (splice-two o at p x (omega arith)) ∙ ap (splice o at) (sym (shown-large v h g)),
      ),
    )

-- What is written is read back.

-- digits behind digits
pub tens_append : (a : ℕ) (s t : List ℕ) → tens a (s ++ t) ≡ tens (tens a s) t
unfolding tens
tens_append a [] t = refl
tens_append a (x ∷ s) t = tens_append (a * 10 + (x - 48)) s t

-- one digit d
digit : (d : ℕ) → d < 10 → is_digit (48 + d) ≡ true
unfolding is_digit
digit d h = in_among 48 57 (48 + d) (omega arith) (omega arith)

-- digits s of the number v, at most n of them
record Digits (v n : ℕ) (s : List ℕ) : Type 0 where
  each : all is_digit s ≡ true
  worth : decimal_of s ≡ v
  some : 1 ≤ length s
  few : length s ≤ n

one-digit : (n v : ℕ) → v < 10 → Digits v (suc n) ((48 + v) ∷ [])
unfolding tens all
one-digit n v a = record { each = rw (digit v a); worth = omega arith; some = omega arith; few = omega arith }

digits_of : (n v : ℕ) → v < ten_to (suc n) → Digits v (suc n) (shown_in (suc n) v)
unfolding shown_in ten_to tens all
digits_of zero v h = rw (lt-ltb v 10 (omega arith)) (one-digit 0 v (omega arith))
digits_of (suc n) v h = go (dec_lt v 10) (λ a. digits_of n (v / 10) (omega arith))
  where
    go : Dec (v < 10) → (10 ≤ v → Digits (v / 10) (suc n) (shown_in (suc n) (v / 10))) → Digits v (suc (suc n)) (shown_in (suc (suc n)) v)
    go (yes a) higher = rw (lt-ltb v 10 a) (one-digit (suc n) v a)
    go (no a) higher =
        let d = higher (omega arith) in
        rw (le-ltb v 10 (omega arith)) (record {
          each = rw (all_append, d.each, digit (v % 10) (omega arith));
          worth = rw (tens_append, d.worth) (omega arith);
          some = rw length-append (omega arith);
          few = rw length-append (let f = d.few in omega arith);
        })

-- a number of 64 bits has at most 20 digits
twenty : (v : ℕ) → v < 18446744073709551616 → v < ten_to 20
unfolding ten_to
twenty v h = omega arith

pub shown_read : (v : ℕ) → v < 18446744073709551616 → decimal_in (shown v) ≡ Some v
unfolding shown
shown_read v h =
    let d = digits_of 19 v (twenty v h) in
    sym (read (shown_in 20 v) d.some d.few v d.each d.worth h)

pub shown-length : (v : ℕ) → v < 18446744073709551616 → length (shown v) ≤ 20
unfolding shown
shown-length v h = (digits_of 19 v (twenty v h)).few
