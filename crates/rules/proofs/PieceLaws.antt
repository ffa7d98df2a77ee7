-- The pieces' laws: a run, a digit and a code point at a time for the loops, and what one byte at a place means. Assumes nothing.
use Prim.Native.Nat.{◌*◌, ◌+◌, ◌-◌, ◌<◌, ◌≤◌, suc, zero, ℕ}
use mathlib.Core.Bool.{Bool, and-false, and-true, false, true, cond}
use mathlib.Core.List.{List, ◌∷◌, []}
use mathlib.Core.Logic.{⊎_elim}
use mathlib.Core.Path.{◌∙◌, ◌≡◌, ap, refl, sym}
use native.Mathlib.Nat.{eq-or-lt_of_le, zero-add}
use native.Mathlib.Numerals.{add-one}
use native.Mathlib.Omega.{arith}
use borrow.Author.Tests.{eqb-false, eqb-true, lt-leb, ne_eqb}
use lib.Dec.{eqb, leb}
use lib.ListN.{drop, drop_of_length-le, get_or, length}
use lib.Seq.{drop-cons, drop-nil}
use Rattle.octets.proofs.TextLaws.{there}
use Rattle.octets.specs.Class.{among, is_digit}
use Rattle.octets.specs.Text.{same, stands_at}
use Rattle.rules.specs.Classes.{holds}
use Rattle.rules.specs.Pieces.{digits, run_length, decimal_at}
use Rattle.rules.specs.Texts.{begins_point, points}
use Rattle.rules.specs.declared.classes.Class.{Class}
use Rattle.std.proofs.lemmas.List.Folds.{list_all-append, list_all-map}
use Rattle.std.proofs.lemmas.List.FromFn.{map-range_with_len_more}
use Rattle.std.proofs.lemmas.List.Recursion.{is_count_by}
use Rattle.std.specs.List.{count_by, list_all, range_with_len}
use Rattle.std.specs.Prelude.{map}

module _ (k : Class) (s : List ℕ) (i : ℕ) where
  pub run_more : i < length s → holds k (get_or s i 0) ≡ true → i + run_length k (drop i s) ≡ (i + 1) + run_length k (drop (i + 1) s)
  unfolding run_length
  run_more h e = rw (add-one, drop-cons s i 0, e) (omega arith)

  pub run-stops : i < length s → holds k (get_or s i 0) ≡ false → i + run_length k (drop i s) ≡ i
  unfolding run_length
  run-stops h e = rw (drop-cons s i 0, e) (omega arith)

  pub run_ends : length s ≤ i → i + run_length k (drop i s) ≡ i
  unfolding run_length
  run_ends h = rw (drop_of_length-le s h) (omega arith)

-- the bytes from a up to r are of the class
run_all : (k : Class) (s : List ℕ) (a n : ℕ) → a + n ≤ length s → ((i : ℕ) → a ≤ i → i < a + n → holds k (get_or s i 0) ≡ true)
    → a + run_length k (drop a s) ≡ (a + n) + run_length k (drop (a + n) s)
run_all k s a zero h g = let z : a ≡ a + 0 = omega arith in ap (λ (i : ℕ). i + run_length k (drop i s)) z
run_all k s a (suc n) h g =
    let z : a + n + 1 ≡ a + suc n = omega arith in
    run_all k s a n (omega arith) (λ i l u. g i l (omega arith)) ∙ run_more k s (a + n) (omega arith) (g (a + n) (omega arith) (omega arith))
    ∙ ap (λ (i : ℕ). i + run_length k (drop i s)) z

-- and so the run ends at r, where the text ends or a byte of no such class stands
pub run_to : (k : Class) (s : List ℕ) (a r : ℕ) → a ≤ r → r ≤ length s → ((i : ℕ) → a ≤ i → i < r → holds k (get_or s i 0) ≡ true)
    → (r < length s → holds k (get_or s r 0) ≡ false) → a + run_length k (drop a s) ≡ r
run_to k s a r l u g e =
    let z : a + (r - a) ≡ r = omega arith in
    run_all k s a (r - a) (omega arith) (λ i p q. g i p (omega arith)) ∙ ap (λ (i : ℕ). i + run_length k (drop i s)) z
    ∙ ⊎_elim (λ (p : r ≡ length s). run_ends k s r (omega arith)) (λ (p : r < length s). run-stops k s r p (e p)) (eq-or-lt_of_le u)

module _ (s : List ℕ) (at : ℕ) where
  abbrev digit : ℕ → Bool
  digit i = is_digit (get_or s (at + i) 0)

  -- digits one after the other, as a range of places
  digits-from : (n : ℕ) → list_all (λ b. b) (map digit (range_with_len 0 n)) ≡ digits n s at
  unfolding digits
  digits-from zero = refl
  digits-from (suc n) =
      let e = rw (add-one n) at (map-range_with_len_more digit 0 n n (zero-add n)) in
      ap (list_all (λ b. b)) e ∙ list_all-append (λ b. b) (map digit (range_with_len 0 n)) (digit n ∷ [])
      ∙ rw (digits-from n, and-true (digit n))

  pub digits_all : (n : ℕ) → list_all digit (range_with_len 0 n) ≡ digits n s at
  digits_all n = sym (list_all-map (λ b. b) digit (range_with_len 0 n)) ∙ digits-from n

  digits-stop : (i n : ℕ) (t : Bool) → eqb i n ≡ t → is_digit (get_or s (at + i) 0) ≡ false → (t ≡ false → digits n s at ≡ false) → digits (suc n) s at ≡ false
  unfolding digits
  digits-stop i n true e d f = rw (← eqb-true i n e, d) (and-false (digits i s at))
  digits-stop i n false e d f = rw (f refl)

  pub digits-stops : (i n : ℕ) → i < n → is_digit (get_or s (at + i) 0) ≡ false → digits n s at ≡ false
  digits-stops i zero h d = absurd (omega arith)
  digits-stops i (suc n) h d =
      digits-stop i n (eqb i n) refl d (λ e. digits-stops i n (omega (arith, eqb-false i n e)) d)

  pub value-more : (i : ℕ) → decimal_at (i + 1) s at ≡ decimal_at i s at * 10 + (get_or s (at + i) 0 - 48)
  unfolding decimal_at
  value-more i = rw add-one

  value-step : (n : ℕ) → decimal_at n s at ≤ decimal_at (suc n) s at
  unfolding decimal_at
  value-step n = omega arith

  value_rise : (i n : ℕ) (t : Bool) → eqb i (suc n) ≡ t → (t ≡ false → decimal_at i s at ≤ decimal_at n s at) → decimal_at i s at ≤ decimal_at (suc n) s at
  value_rise i n true e f = let q : i ≡ suc n = eqb-true i (suc n) e in omega (arith, ap (λ (k : ℕ). decimal_at k s at) q)
  value_rise i n false e f = omega (arith, f refl, value-step n)

  pub value_grows : (i n : ℕ) → i ≤ n → decimal_at i s at ≤ decimal_at n s at
  value_grows i zero h = let q : i ≡ 0 = omega arith in omega (arith, ap (λ (k : ℕ). decimal_at k s at) q)
  value_grows i (suc n) h =
      value_rise i n (eqb i (suc n)) refl (λ e. value_grows i n (omega (arith, eqb-false i (suc n) e)))

  pub value-small : ((k : ℕ) → get_or s k 0 < 256) → (i : ℕ) → i ≤ 4 → decimal_at i s at ≤ 229977
  unfolding decimal_at
  value-small g zero h = omega arith
  value-small g (suc zero) h = omega (arith, g (at + 0))
  value-small g (suc (suc zero)) h = omega (arith, g (at + 0), g (at + 1))
  value-small g (suc (suc (suc zero))) h = omega (arith, g (at + 0), g (at + 1), g (at + 2))
  value-small g (suc (suc (suc (suc zero)))) h = omega (arith, g (at + 0), g (at + 1), g (at + 2), g (at + 3))
  value-small g (suc (suc (suc (suc (suc i))))) h = absurd (omega arith)

-- one byte at a place: 0 stands for none
pub stands_one : (s : List ℕ) (at b : ℕ) → 0 < b → stands_at s at (b ∷ []) ≡ eqb (get_or s at 0) b
unfolding stands_at same
stands_one [] at b h = rw (drop-nil at) (sym (ne_eqb 0 b (omega arith)))
stands_one (x ∷ s) zero b h = and-true (eqb x b)
stands_one (x ∷ s) (suc at) b h = stands_one s at b h

-- so a byte that stands there is inside
pub stands-inside : (s : List ℕ) (at b : ℕ) → 0 < b → stands_at s at (b ∷ []) ≡ true → at < length s
stands-inside s at b h e =
    let y : get_or s at 0 ≡ suc (b - 1) = omega (arith, eqb-true (get_or s at 0) b (sym (stands_one s at b h) ∙ e)) in
    there s at (b - 1) y

-- the steps of `number_at`
pub number_more : (s : List ℕ) (at i v b w : ℕ) → v ≡ decimal_at i s at → b ≡ get_or s (at + i) 0 → w ≡ b - 48 → v * 10 + w ≡ decimal_at (i + 1) s at
number_more s at i v b w p q r = rw (value-more s at i, ← p, ← q, r)

-- and those of `count`
module _ (s : List ℕ) (i v w : ℕ) (p : v ≡ decimal_at i s 0) where
  pub count-more : w ≡ get_or s i 0 - 48 → v * 10 + w ≡ decimal_at (i + 1) s 0
  count-more r = rw (value-more s 0 i, ← p, zero-add i, r)

  pub count-over : (n hi : ℕ) → i < n → w ≡ get_or s i 0 - 48 → hi < v * 10 + w → among 1 hi (decimal_at n s 0) ≡ false
  unfolding among
  count-over n hi h r o =
      let g : decimal_at (i + 1) s 0 ≤ decimal_at n s 0 = value_grows s 0 (i + 1) n (omega arith) in
      rw (lt-leb (decimal_at n s 0) hi (omega (arith, count-more r))) (and-false (leb 1 (decimal_at n s 0)))

-- a text's code points, counted
one-point : (x : ℕ) (xs : List ℕ) → points (x ∷ xs) ≡ cond (begins_point x) (1 + points xs) (points xs)
unfolding points
one-point x xs = let z : 1 + points xs ≡ suc (points xs) = omega arith in rw z

pub points-counted : (s : List ℕ) → points s ≡ count_by begins_point s
unfolding points
points-counted s = is_count_by points begins_point refl one-point s
