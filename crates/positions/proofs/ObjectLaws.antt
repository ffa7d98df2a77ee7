-- What the objects tell, one law for each way that the code goes; and the numbers of their types' names. Assumes nothing.
use Prim.Native.Nat.{ℕ, zero, suc, ◌+◌, ◌-◌, ◌*◌, ◌≤◌, ◌<◌, min}
use Rattle.json_text.specs.Places.{bytes, elements}
use Rattle.octets.proofs.TestLaws.{and_parts}
use Rattle.octets.proofs.TextLaws.{same-eq}
use Rattle.octets.specs.Ascii.{ascii}
use Rattle.octets.specs.Class.{all, among, digits_rule, is_digit}
use Rattle.octets.specs.Decimal.{decimal_in, decimal_of, is_decimal, tens}
use Rattle.particulars.specs.Leaves.{metres_rule}
use Rattle.particulars.specs.Members.{values_of}
use Rattle.particulars.specs.Types.{rows_of}
use Rattle.particulars.specs.declared.types.Kind.TheVariants.{CallerInformation, CallerLocation, HomeLocation, LiveLocation, PersonalInformation}
use Rattle.particulars.specs.declared.types.Kind.{Kind}
use Rattle.positions.specs.Objects.{home_at, home_in, live_in, locations_in, metres_of, millionths, or_end, place_named, position_at, values_at}
use Rattle.positions.specs.inner.Told.{told}
use Rattle.rules.specs.Pieces.{word_number_from}
use Rattle.octets.specs.Text.{same}
use Rattle.std.proofs.lemmas.Option.{slice_get-map}
use Rattle.std.specs.Option.{option_map, unwrap_or}
use Rattle.std.specs.Prelude.{None, Option, Some, slice_get, ℤ}
use borrow.Author.Tests.{eq-eqb, eqb-false, le-leb, leb-true, ltb-false, ltb-true, ne_eqb}
use lib.Dec.{eqb, leb, ltb}
use lib.ListN.{get_or, length, length-map, replicate}
use mathlib.Core.Bool.{Bool, true, false, not, ◌&&◌, ◌||◌, cond}
use mathlib.Core.List.{List, [], ◌∷◌}
use mathlib.Core.Path.{◌≡◌, ap, refl, sym, ◌∙◌}
use native.Mathlib.Decide.{dec_lt}
use native.Mathlib.Omega.{arith}

-- Objects.

module _ (t : Kind) (v : List ℕ) (o : ℕ) where
  pub no-values : (get_or v o 0 ≡ 123 → ⊥) → replicate 9 0 ≡ values_at t v o
  unfolding values_at
  no-values ne = rw (ne_eqb (get_or v o 0) 123 ne)

  pub some-values : get_or v o 0 ≡ 123 → {at : List ℕ} → at ≡ values_of t v o → at ≡ values_at t v o
  unfolding values_at
  some-values b e = e ∙ rw (eq-eqb (get_or v o 0) 123 b)

module _ (v : List ℕ) (o : ℕ) {at : List ℕ} where
  pub told-caller : at ≡ values_at CallerLocation v o → told v (get_or at 2 0) (get_or at 3 0) (get_or at 4 0) (get_or at 5 0) ≡ position_at CallerLocation v o
  unfolding told position_at place_named rows_of word_number_from same
  told-caller e = rw e

module _ (v : List ℕ) {at : List ℕ} where
  pub told-live : at ≡ values_at LiveLocation v 0 → told v (get_or at 1 0) (get_or at 2 0) (get_or at 3 0) (get_or at 4 0) ≡ live_in v
  unfolding told live_in position_at place_named rows_of word_number_from same
  told-live e = rw e

module _ (v : List ℕ) (o : ℕ) where
  pub no-home : (get_or v o 0 ≡ 123 → ⊥) → None ≡ home_at v o
  unfolding home_at
  no-home ne = rw (ne_eqb (get_or v o 0) 123 ne)

  pub a-home : get_or v o 0 ≡ 123 → {at : List ℕ} → at ≡ values_at HomeLocation v o → {x y : ℤ} → x ≡ millionths 90 (bytes v (or_end v (get_or at 1 0)))
      → y ≡ millionths 180 (bytes v (or_end v (get_or at 2 0))) → Some (record { latitude = x; longitude = y }) ≡ home_at v o
  unfolding home_at place_named rows_of word_number_from same
  a-home b e f g = rw (f, g, e, eq-eqb (get_or v o 0) 123 b)

module _ (v : List ℕ) {caller person : List ℕ} {p h : ℕ} where
  pub the-home : caller ≡ values_at CallerInformation v 0 → p ≡ or_end v (get_or caller 5 0) → person ≡ values_at PersonalInformation v p
      → h ≡ or_end v (get_or person 8 0) → home_at v h ≡ home_in v
  unfolding home_in place_named rows_of word_number_from same
  the-home a b d e = rw (e, d, b, a)

-- Metres.

not-true : (b : Bool) → not b ≡ true → b ≡ false
not-true true e = sym e
not-true false e = refl

pub no-metres : (w : List ℕ) → metres_rule w ≡ false → None ≡ metres_of w
unfolding metres_of
no-metres w e = rw e

-- digits of which the first is none of the leading zeros: k more make the number ten to the k times as large
tenfold : ℕ → ℕ
tenfold zero = 1
tenfold (suc k) = 10 * tenfold k

grown : (k a : ℕ) (w : List ℕ) → k ≤ length w → a * tenfold k ≤ tens a w
unfolding tens tenfold
grown zero a [] h = omega arith
grown zero a (x ∷ w) h = let z = grown zero (a * 10 + (x - 48)) w (omega arith) in omega arith
grown (suc k) a [] h = absurd (omega arith)
grown (suc k) a (x ∷ w) h = let z = grown k (a * 10 + (x - 48)) w (omega arith) in omega arith

abbrev most : ℕ
most = 18446744073709551615

above-zero : (x : ℕ) → is_digit x ≡ true → eqb x 48 ≡ false → 1 ≤ x - 48
unfolding is_digit among
above-zero x e f = let a = leb-true 48 x (and_parts (leb 48 x) (leb x 57) e).0 in let b = eqb-false x 48 f in omega arith

-- digits, of which the first is no zero: a number of more than twenty, and what fills a number of 64 bits
module _ (w : List ℕ) (some : 1 ≤ length w) (digits : all is_digit w ≡ true) where
  many : eqb (get_or w 0 0) 48 ≡ false → 20 < length w → most ≤ decimal_of w
  unfolding all tens tenfold
  many e h = by w digits e h
    where
      by : (w : List ℕ) → all is_digit w ≡ true → eqb (get_or w 0 0) 48 ≡ false → 20 < length w → most ≤ decimal_of w
      by [] d e h = absurd (omega arith)
      by (x ∷ w) d e h =
          let a = above-zero x (and_parts (is_digit x) (all is_digit w) d).0 e in
          let z = grown 20 (0 * 10 + (x - 48)) w (omega arith) in
          let t : tenfold 20 ≡ 100000000000000000000 = refl in
          omega arith

  few : length w ≤ 20 → is_decimal w ≡ false → most ≤ decimal_of w
  unfolding is_decimal
  few h f =
      let z : ltb (decimal_of w) 18446744073709551616 ≡ false = rw (le-leb 1 (length w) some, le-leb (length w) 20 h, digits) at f in
      let y = ltb-false (decimal_of w) 18446744073709551616 z in
      omega arith

  of-digits : eqb (get_or w 0 0) 48 ≡ false → is_decimal w ≡ false → most ≤ decimal_of w
  of-digits e f = by (dec_lt 20 (length w))
    where
      by : Dec (20 < length w) → most ≤ decimal_of w
      by (yes h) = many e h
      by (no h) = few (omega arith) f

zero-is : is_decimal (ascii "0") ≡ false → ⊥
unfolding is_decimal all is_digit among tens
zero-is e = let z : ◌≡◌ {A = ℕ} 0 1 = cc in omega arith

full : (w : List ℕ) → metres_rule w ≡ true → is_decimal w ≡ false → most ≤ decimal_of w
unfolding metres_rule digits_rule among
full w e f = by (same w (ascii "0")) refl e
  where
    by : (b : Bool) → same w (ascii "0") ≡ b → (b || (not (eqb (get_or w 0 0) 48) && (among 1 (length w) (length w) && all is_digit w))) ≡ true → most ≤ decimal_of w
    by true h g = absurd (zero-is (sym (ap is_decimal (same-eq w (ascii "0") h)) ∙ f))
    by false h g =
        let n = and_parts (not (eqb (get_or w 0 0) 48)) _ g in
        let d = and_parts (among 1 (length w) (length w)) (all is_digit w) n.1 in
        let l = leb-true 1 (length w) (and_parts (leb 1 (length w)) _ d.0).0 in
        of-digits w l d.1 (not-true (eqb (get_or w 0 0) 48) n.0) f

fits : (w : List ℕ) → is_decimal w ≡ true → decimal_of w < 18446744073709551616
unfolding is_decimal
fits w e =
    let b = (and_parts (leb 1 (length w)) _ e).1 in
    let d = (and_parts (leb (length w) 20) _ b).1 in
    ltb-true (decimal_of w) 18446744073709551616 (and_parts (all is_digit w) _ d).1

capped : (w : List ℕ) → metres_rule w ≡ true → unwrap_or (decimal_in w) most ≡ min (decimal_of w) most
unfolding decimal_in
capped w e = by (is_decimal w) refl
  where
    by : (b : Bool) → is_decimal w ≡ b → unwrap_or (cond b (Some (decimal_of w)) None) most ≡ min (decimal_of w) most
    by true f = let z = fits w f in omega arith
    by false f = let z = full w e f in omega arith

pub metres : (w : List ℕ) → metres_rule w ≡ true → {r : Option ℕ} {n : ℕ} → r ≡ decimal_in w → n ≡ unwrap_or r 18446744073709551615 → Some n ≡ metres_of w
unfolding metres_of
metres w e {r} {n} f g = rw e (ap Some (g ∙ ap (λ (x : Option ℕ). unwrap_or x most) f ∙ capped w e))

-- The elements of Locations.

-- the k-th of those from a place on, by the first of them
pub no-element : (k : ℕ) {os : List ℕ} → os ≡ [] → None ≡ slice_get os k
no-element k e = rw e refl

pub this-element : {k i q : ℕ} {os rest : List ℕ} → os ≡ q ∷ rest → i ≡ k → Some q ≡ slice_get os (k - i)
this-element {k} {i} e h = let z : k - i ≡ 0 = omega arith in rw (e, z) refl

pub later-element : {k i q : ℕ} {os rest : List ℕ} → os ≡ q ∷ rest → i ≤ k → (i ≡ k → ⊥) → slice_get os (k - i) ≡ slice_get rest (k - (i + 1))
later-element {k} {i} e h ne = let z : k - i ≡ suc (k - (i + 1)) = omega arith in rw (e, z) refl

pub k-th : (v : List ℕ) (k : ℕ) {r : Option ℕ} → r ≡ slice_get (elements v 0) k → option_map (position_at CallerLocation v) r ≡ slice_get (locations_in v) k
unfolding locations_in
k-th v k e = rw e (sym (slice_get-map (position_at CallerLocation v) (elements v 0) k))

pub count-is : (v : List ℕ) → length (elements v 0) ≡ length (locations_in v)
unfolding locations_in
count-is v = sym (length-map (elements v 0) (position_at CallerLocation v))
