-- The steps of the loops: one letter more, and the ways out. Assumes nothing.
use Prim.Native.Nat.{ℕ, zero, suc, min, ◌+◌, ◌-◌, ◌*◌, ◌^◌, ◌≤◌, ◌<◌}
use Rattle.letters.proofs.NumberLaws.{is-meets}
use Rattle.letters.specs.inner.Reach.{common, count_letters, follows, low, meets, number_letters, run_letters, top}
use Rattle.octets.proofs.ClassLaws.{among-high, among-low, in_among}
use Rattle.octets.proofs.TestLaws.{Either, either}
use Rattle.octets.specs.Class.{among, is_digit}
use Rattle.rules.specs.declared.classes.Class.{Class}
use Rattle.std.proofs.Math.Nat.{mul_assoc, pow-succ'}
use Rattle.std.specs.List.{prefix_len, zip}
use borrow.Author.Tests.{le-leb, le-ltb, leb-false, leb-true, lt-leb}
use lib.Dec.{eqb, leb, ltb}
use lib.ListN.{drop, drop_of_length-le, get_or, length}
use lib.Seq.{drop-cons}
use mathlib.Core.Bool.{Bool, true, false, and-false, cond}
use mathlib.Core.List.{List, [], ◌∷◌}
use mathlib.Core.Logic.{inl, inr}
use mathlib.Core.Path.{◌≡◌, refl, ◌∙◌}
use native.Mathlib.Numerals.{add-one}
use native.Mathlib.Omega.{arith}

-- `common`
pub common-zip : (s w : List ℕ) → prefix_len (λ (p : ℕ × ℕ). eqb p.0 p.1) (zip s w) ≡ common s w
unfolding common
common-zip [] w = refl
common-zip (x ∷ s) [] = refl
common-zip (x ∷ s) (y ∷ w) = let z : 1 + common s w ≡ suc (common s w) = omega arith in rw (common-zip s w, z)

pub common-inside : (s w : List ℕ) → common s w ≤ length s
unfolding common
common-inside [] w = omega arith
common-inside (x ∷ s) [] = omega arith
common-inside (x ∷ s) (y ∷ w) = by (eqb x y) (common-inside s w)
  where
    by : (b : Bool) → common s w ≤ length s → cond b (suc (common s w)) 0 ≤ suc (length s)
    by true h = omega arith
    by false h = omega arith

-- `run_letters`
module _ (hi : ℕ) (c e : Class) (s : List ℕ) (i : ℕ) where
  pub run_more : i < length s → follows hi c e i (get_or s i 0) ≡ true → i + run_letters hi c e i (drop i s) ≡ (i + 1) + run_letters hi c e (i + 1) (drop (i + 1) s)
  unfolding run_letters
  run_more h f = rw (add-one, drop-cons s i 0, f) (omega arith)

  pub run-stops : i < length s → follows hi c e i (get_or s i 0) ≡ false → i + run_letters hi c e i (drop i s) ≡ i
  unfolding run_letters
  run-stops h f = rw (drop-cons s i 0, f) (omega arith)

  pub run_ends : length s ≤ i → i + run_letters hi c e i (drop i s) ≡ i
  unfolding run_letters
  run_ends h = rw (drop_of_length-le s h) (omega arith)

-- `meets`
low-is : (m v : ℕ) → low m v ≡ v * 10 ^ m
unfolding low
low-is zero v = omega arith
low-is (suc m) v = rw (low-is m (v * 10), mul_assoc v 10 (10 ^ m), ← pow-succ' 10 m)

top-is : (m v : ℕ) → top m v + 1 ≡ (v + 1) * 10 ^ m
unfolding top
top-is zero v = omega arith
top-is (suc m) v =
    let z : (v * 10 + 9) + 1 ≡ (v + 1) * 10 = omega arith in
    top-is m (v * 10 + 9) ∙ rw (z, mul_assoc (v + 1) 10 (10 ^ m), ← pow-succ' 10 m)

module _ (lo hi m v u : ℕ) (q : u ≡ 10 ^ m) where
  pub meets-high : lo < (v + 1) * u → leb (v * u) hi ≡ meets lo hi m v
  unfolding meets
  meets-high h =
      let t : top m v + 1 ≡ (v + 1) * u = rw q (top-is m v) in
      rw (le-leb lo (top m v) (omega arith), low-is m v, ← q)

  pub meets-low : (v + 1) * u ≤ lo → ltb lo ((v + 1) * u) ≡ meets lo hi m v
  unfolding meets
  meets-low h =
      let t : top m v + 1 ≡ (v + 1) * u = rw q (top-is m v) in
      rw (le-ltb lo ((v + 1) * u) h, lt-leb lo (top m v) (omega arith))

-- `number_letters`
low-above : (m v : ℕ) → v ≤ low m v
unfolding low
low-above zero v = omega arith
low-above (suc m) v = omega (arith, low-above m (v * 10))

pub meets-below : (lo hi m v : ℕ) → meets lo hi m v ≡ true → v ≤ hi
meets-below lo hi m v e = omega (arith, low-above m v, (is-meets lo hi m v e).1)

module _ (lo hi n v : ℕ) (s : List ℕ) (i : ℕ) where
  number-ends : i ≡ n → i + number_letters lo hi (n - i) v (drop i s) ≡ i
  unfolding number_letters
  number-ends e = rw (let z : n - i ≡ 0 = omega arith in z) (omega arith)

  number_short : i < n → length s ≤ i → i + number_letters lo hi (n - i) v (drop i s) ≡ i
  unfolding number_letters
  number_short k h = rw (let z : n - i ≡ suc (n - i - 1) = omega arith in z, drop_of_length-le s h) (omega arith)

  pub number-whole : i ≡ min n (length s) → i + number_letters lo hi (n - i) v (drop i s) ≡ i
  number-whole e = by (either (leb n (length s)))
    where
      by : Either (leb n (length s)) → i + number_letters lo hi (n - i) v (drop i s) ≡ i
      by (inl h) = let g = leb-true n (length s) h in number-ends (omega arith)
      by (inr h) = let g = leb-false n (length s) h in number_short (omega arith) (omega arith)

  module _ (k : i < n) (h : i < length s) where
    pub number-other : is_digit (get_or s i 0) ≡ false → i + number_letters lo hi (n - i) v (drop i s) ≡ i
    unfolding number_letters
    number-other d = rw (let z : n - i ≡ suc (n - i - 1) = omega arith in z, drop-cons s i 0, d) (omega arith)

    pub number-stops : (w : ℕ) → w ≡ v * 10 + (get_or s i 0 - 48) → meets lo hi (n - i - 1) w ≡ false → i + number_letters lo hi (n - i) v (drop i s) ≡ i
    unfolding number_letters
    number-stops w q e = rw (let z : n - i ≡ suc (n - i - 1) = omega arith in z, drop-cons s i 0, ← q, e, and-false (is_digit (get_or s i 0))) (omega arith)

    pub number_more : (w : ℕ) → w ≡ v * 10 + (get_or s i 0 - 48) → is_digit (get_or s i 0) ≡ true → meets lo hi (n - i - 1) w ≡ true
        → i + number_letters lo hi (n - i) v (drop i s) ≡ (i + 1) + number_letters lo hi (n - (i + 1)) w (drop (i + 1) s)
    unfolding number_letters
    number_more w q d e =
        rw (let z : n - i ≡ suc (n - i - 1) = omega arith in z, let y : n - (i + 1) ≡ n - i - 1 = omega arith in y, add-one, drop-cons s i 0, ← q, d, e) (omega arith)

-- `count_letters`
module _ (hi v : ℕ) (s : List ℕ) (i : ℕ) where
  pub count-ends : length s ≤ i → i + count_letters hi v (drop i s) ≡ i
  unfolding count_letters
  count-ends h = rw (drop_of_length-le s h) (omega arith)

  module _ (h : i < length s) where
    pub count-other : is_digit (get_or s i 0) ≡ false → i + count_letters hi v (drop i s) ≡ i
    unfolding count_letters
    count-other d = rw (drop-cons s i 0, d) (omega arith)

    count-stops : (w : ℕ) → w ≡ v * 10 + (get_or s i 0 - 48) → among 1 hi w ≡ false → i + count_letters hi v (drop i s) ≡ i
    unfolding count_letters
    count-stops w q e = rw (drop-cons s i 0, ← q, e, and-false (is_digit (get_or s i 0))) (omega arith)

    pub count-zero : (w : ℕ) → w ≡ v * 10 + (get_or s i 0 - 48) → w ≡ 0 → i + count_letters hi v (drop i s) ≡ i
    count-zero w q e = count-stops w q (among-low 1 hi w (omega arith))

    pub count-over : (w : ℕ) → w ≡ v * 10 + (get_or s i 0 - 48) → (w ≡ 0 → ⊥) → hi < w → i + count_letters hi v (drop i s) ≡ i
    count-over w q z e = count-stops w q (among-high 1 hi w (omega (arith, z)) e)

    pub count-more : (w : ℕ) → w ≡ v * 10 + (get_or s i 0 - 48) → is_digit (get_or s i 0) ≡ true → (w ≡ 0 → ⊥) → w ≤ hi
        → i + count_letters hi v (drop i s) ≡ (i + 1) + count_letters hi w (drop (i + 1) s)
    unfolding count_letters
    count-more w q d z e = rw (add-one, drop-cons s i 0, ← q, d, in_among 1 hi w (omega (arith, z)) e) (omega arith)
