-- Coordinates: what the written digits are worth, and one law for each way out of the functions that read them. Assumes nothing.
use Prim.Native.Nat.{ℕ, ◌+◌, ◌-◌, ◌*◌, ◌≤◌, ◌<◌, min}
use Rattle.coordinates.specs.Coordinate.{coordinate_of, decimals, has_minus, is_spelled, millionths_of, signed, to_six, unsigned, whole}
use Rattle.octets.proofs.ClassLaws.{among-high, digit_in, digits_in}
use Rattle.octets.proofs.DecimalLaws.{tens_append}
use Rattle.octets.proofs.TestLaws.{Either, and_parts, either}
use Rattle.octets.proofs.TextLaws.{before-within}
use Rattle.octets.specs.Class.{all, among, digits_rule, is_digit}
use Rattle.octets.specs.Decimal.{decimal_in, decimal_of, is_decimal, tens}
use Rattle.octets.specs.Text.{before}
use Rattle.std.proofs.Common.{None, Some}
use Rattle.std.proofs.lemmas.Int.{ints}
use Rattle.std.proofs.lemmas.List.{drop_min}
use borrow.Author.Tests.{eq-eqb, le-leb, lt-leb, lt-ltb, ne_eqb}
use lib.Dec.{eqb, leb}
use lib.IntN.{pos, neg_ℤ, ◌-ℤ◌}
use lib.ListN.{drop, get_or, length, length-drop, length-take, take}
use lib.Seq.{length-take-le, take_all}
use mathlib.Core.Bool.{Bool, true, false, ◌&&◌, ◌||◌, and-false, and-true, cond}
use mathlib.Core.List.{List, [], ◌∷◌}
use mathlib.Core.Logic.{inl, inr}
use mathlib.Core.Path.{◌≡◌, refl, ap, ◌∙◌}
use mir.Syntax.{w32}
use mir.Val.{of_z, to_z}
use native.Mathlib.Decide.{dec_lt}
use native.Mathlib.Omega.{arith}

-- Digits behind the number a: those of f, with zeros to six; past the end of f stands byte 0, which is worth nothing.
pub six_behind : (a : ℕ) (f : List ℕ) → length f ≤ 6
    → a * 1000000 + (get_or f 0 0 - 48) * 100000 + (get_or f 1 0 - 48) * 10000 + (get_or f 2 0 - 48) * 1000 + (get_or f 3 0 - 48) * 100 + (get_or f 4 0 - 48) * 10
    + (get_or f 5 0 - 48) ≡ tens a (to_six f)
unfolding tens to_six
six_behind a [] h = omega arith
six_behind a (x ∷ []) h = omega arith
six_behind a (x ∷ y ∷ []) h = omega arith
six_behind a (x ∷ y ∷ z ∷ []) h = omega arith
six_behind a (x ∷ y ∷ z ∷ u ∷ []) h = omega arith
six_behind a (x ∷ y ∷ z ∷ u ∷ v ∷ []) h = omega arith
six_behind a (x ∷ y ∷ z ∷ u ∷ v ∷ w ∷ []) h = omega arith
six_behind a (x ∷ y ∷ z ∷ u ∷ v ∷ w ∷ q ∷ f) h = absurd (omega arith)

-- three digits are a number below a thousand
three : (s : List ℕ) → length s ≤ 3 → all is_digit s ≡ true → decimal_of s < 1000
unfolding all tens
three [] h e = omega arith
three (x ∷ []) h e =
    let i = digit_in x (and_parts (is_digit x) true e).0 in
    omega arith
three (x ∷ y ∷ []) h e =
    let q = and_parts (is_digit x) (is_digit y && true) e in
    let r = and_parts (is_digit y) true q.1 in
    let i = digit_in x q.0 in
    let j = digit_in y r.0 in
    omega arith
three (x ∷ y ∷ z ∷ []) h e =
    let q = and_parts (is_digit x) (is_digit y && (is_digit z && true)) e in
    let r = and_parts (is_digit y) (is_digit z && true) q.1 in
    let t = and_parts (is_digit z) true r.1 in
    let i = digit_in x q.0 in
    let j = digit_in y r.0 in
    let k = digit_in z t.0 in
    omega arith
three (x ∷ y ∷ z ∷ u ∷ s) h e = absurd (omega arith)

-- so `decimal` answers for one to three digits, among texts of three bytes at most
few : (s : List ℕ) → length s ≤ 3 → decimal_in s ≡ cond (digits_rule 1 3 s) (Some (decimal_of s)) None
unfolding decimal_in is_decimal digits_rule among
few s h = by (either (all is_digit s))
  where
    by : Either (all is_digit s) → decimal_in s ≡ cond (digits_rule 1 3 s) (Some (decimal_of s)) None
    by (inl e) =
        let v : decimal_of s < 18446744073709551616 = omega (arith, three s h e) in
        rw (le-leb (length s) 20 (omega arith), le-leb (length s) 3 h, e, lt-ltb (decimal_of s) 18446744073709551616 v, and-true (leb 1 (length s)), and-true (leb 1 (length s)))
    by (inr e) = rw (le-leb (length s) 20 (omega arith), e, and-false (leb 1 (length s)), and-false (leb 1 (length s) && leb (length s) 3))

-- a number without its minus
pub with_minus : (v : List ℕ) → get_or v 0 0 ≡ 45 → take (length v - 1) (drop 1 v) ≡ unsigned v
unfolding unsigned has_minus
with_minus v e = rw (eq-eqb _ _ e, take_all (length v - 1) (drop 1 v) (omega (arith, length-drop 1 v)))

pub without_minus : (v : List ℕ) → (get_or v 0 0 ≡ 45 → ⊥) → v ≡ unsigned v
unfolding unsigned has_minus
without_minus v e = rw (ne_eqb _ _ e)

-- what an answer says of the test that picked it
none_by : {A : Type 0} (t : Bool) (x : A) → None ≡ cond t (Some x) None → t ≡ false
none_by true x e = cc
none_by false x e = refl

pub some_by : {A : Type 0} (t : Bool) (x y : A) → Some y ≡ cond t (Some x) None → (t ≡ true) × (y ≡ x)
some_by true x y e = (refl, cc)
some_by false x y e = cc

-- Each way out of `millionths`, with the point at p.
module _ (b : List ℕ) (p : ℕ) (point : p ≡ 0 + before 46 b) where
  pub point_within : p ≤ length b
  point_within = omega (arith, before-within 46 b)

  whole_is : take p b ≡ whole b
  unfolding whole
  whole_is = let z : p ≡ before 46 b = omega arith in ap (λ (n : ℕ). take n b) z

  pub length-whole : length (take p b) ≡ p
  length-whole = length-take-le p b point_within

  refused : is_spelled b ≡ false → None ≡ cond (is_spelled b) (Some (millionths_of b)) None
  refused e = rw e

  wrong_whole : digits_rule 1 3 (take p b) ≡ false → None ≡ cond (is_spelled b) (Some (millionths_of b)) None
  unfolding is_spelled
  wrong_whole e = refused (rw (← whole_is, e))

  pub long_whole : 3 < p → None ≡ cond (is_spelled b) (Some (millionths_of b)) None
  unfolding digits_rule
  long_whole h = wrong_whole (rw (length-whole, among-high 1 3 p (omega arith) h))

  module _ (short : p ≤ 3) where
    pub no_whole : None ≡ decimal_in (take p b) → None ≡ cond (is_spelled b) (Some (millionths_of b)) None
    no_whole e = wrong_whole (none_by _ _ (e ∙ few (take p b) (omega (arith, length-whole))))

    module _ (x : ℕ) (read : Some x ≡ decimal_in (take p b)) where
      good_whole : (digits_rule 1 3 (take p b) ≡ true) × (x ≡ decimal_of (take p b))
      good_whole = some_by _ _ _ (read ∙ few (take p b) (omega (arith, length-whole)))

      pub whole_small : x < 1000
      whole_small =
          let e = good_whole in
          omega (arith, three (take p b) (omega (arith, length-whole)) (digits_in 1 3 (take p b) e.0).2, e.1)

      module _ (m : ℕ) (from : m ≡ min (p + 1) (length b)) where
        decimals_are : take (length b - m) (drop m b) ≡ decimals b
        unfolding decimals
        decimals_are =
            let z : before 46 b ≡ p = omega arith in
            rw (take_all (length b - m) (drop m b) (omega (arith, length-drop m b)), from, drop_min (p + 1) b, z)

        pub wrong_decimals : p < length b → digits_rule 1 6 (take (length b - m) (drop m b)) ≡ false → None ≡ cond (is_spelled b) (Some (millionths_of b)) None
        unfolding is_spelled
        wrong_decimals h e =
            let z : before 46 b ≡ p = omega arith in
            let f : digits_rule 1 6 (decimals b) ≡ false = rw decimals_are at e in
            refused (rw (z, ne_eqb p (length b) (omega arith), f, and-false (digits_rule 1 3 (whole b))))

        module _ (good : p < length b → digits_rule 1 6 (take (length b - m) (drop m b)) ≡ true) where
          pub few_decimals : length (take (length b - m) (drop m b)) ≤ 6
          few_decimals = go (dec_lt p (length b))
            where
              go : Dec (p < length b) → length (take (length b - m) (drop m b)) ≤ 6
              go (yes h) = (digits_in 1 6 _ (good h)).1
              go (no h) = omega (arith, length-take (length b - m) (drop m b), length-drop m b)

          spelled : is_spelled b ≡ true
          unfolding is_spelled
          spelled = rw (← whole_is, good_whole.0) (go (dec_lt p (length b)))
            where
              go : Dec (p < length b) → (eqb (before 46 b) (length b) || digits_rule 1 6 (decimals b)) ≡ true
              go (yes h) = rw (ne_eqb (before 46 b) (length b) (omega arith), ← decimals_are) (good h)
              go (no h) = rw (eq-eqb (before 46 b) (length b) (omega (arith, point_within)))

          pub all_read : (r : ℕ) → r ≡ tens x (to_six (take (length b - m) (drop m b))) → Some r ≡ cond (is_spelled b) (Some (millionths_of b)) None
          unfolding millionths_of
          all_read r e = rw (spelled, e, good_whole.1, decimals_are, whole_is, tens_append 0 (whole b) (to_six (decimals b)))

-- Each way out of `coordinate_of`, with u the number without its minus and m its millionths.
module _ (degrees : ℕ) (v u : List ℕ) (of : u ≡ unsigned v) where
  pub no_millionths : None ≡ cond (is_spelled u) (Some (millionths_of u)) None → None ≡ coordinate_of degrees v
  unfolding coordinate_of
  no_millionths e = rw (← of, none_by _ _ e)

  module _ (m : ℕ) (read : Some m ≡ cond (is_spelled u) (Some (millionths_of u)) None) where
    pub too_far : degrees * 1000000 < m → None ≡ coordinate_of degrees v
    unfolding coordinate_of
    too_far h = let e = some_by _ _ _ read in rw (← of, e.0, ← e.1, lt-leb m (degrees * 1000000) h)

    near : m ≤ degrees * 1000000 → coordinate_of degrees v ≡ Some (signed (has_minus v) m)
    unfolding coordinate_of
    near h = let e = some_by _ _ _ read in rw (← of, e.0, ← e.1, le-leb m (degrees * 1000000) h)

    module _ (bound : m < 2147483648) (within : m ≤ degrees * 1000000) where
      pub below_zero : get_or v 0 0 ≡ 45 → Some (to_z w32 (of_z w32 (pos 0 -ℤ to_z w32 m))) ≡ coordinate_of degrees v
      unfolding has_minus
      below_zero e =
          let z : to_z w32 (of_z w32 (pos 0 -ℤ to_z w32 m)) ≡ neg_ℤ (pos m) = omega (arith, ints) in
          rw (near within, eq-eqb _ _ e, z)

      pub above_zero : (get_or v 0 0 ≡ 45 → ⊥) → Some (to_z w32 m) ≡ coordinate_of degrees v
      unfolding has_minus
      above_zero e =
          let z : to_z w32 m ≡ pos m = omega (arith, ints) in
          rw (near within, ne_eqb _ _ e, z)
