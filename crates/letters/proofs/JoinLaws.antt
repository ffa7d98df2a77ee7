-- A piece alone, and what stands behind it where the text has the whole piece, as the code puts them together by places. Assumes nothing.
use Prim.Native.Nat.{ℕ, zero, suc, max, ◌+◌, ◌-◌, ◌*◌, ◌≤◌, ◌<◌}
use Rattle.letters.specs.inner.Reach.{common, count_letters, count_reach, end_reach, fixed_reach, follows, meets, number_letters, number_reach, run_letters, run_reach}
use Rattle.letters.specs.inner.Reach.{words_reach}
use Rattle.octets.proofs.ClassLaws.{among_in, among-low}
use Rattle.octets.proofs.TestLaws.{Either, and_right, either, picked, picked-alike}
use Rattle.octets.specs.Ascii.{ascii}
use Rattle.octets.specs.Class.{among, is_digit}
use Rattle.rules.specs.Classes.{holds}
use Rattle.rules.specs.Names.{methods}
use Rattle.rules.specs.Pieces.{decimal_at, within}
use Rattle.rules.specs.declared.classes.Class.{Class}
use borrow.Author.Tests.{eq-eqb, eqb-false, eqb-true, lt-ltb, ne_eqb}
use lib.Dec.{eqb, ltb}
use lib.ListN.{drop, get_or, length}
use lib.Seq.{drop-drop, get_or-drop}
use mathlib.Core.Bool.{Bool, true, false, ◌&&◌, ◌||◌, cond, or-false, or-true}
use mathlib.Core.List.{List, [], ◌∷◌}
use mathlib.Core.Logic.{inl, inr}
use mathlib.Core.Path.{◌≡◌, refl, sym, ap, ◌∙◌}
use native.Mathlib.Nat.{zero-add}
use native.Mathlib.Omega.{arith}

eqb-suc : (a b : ℕ) → eqb (suc a) (suc b) ≡ eqb a b
eqb-suc a b = go (either (eqb a b))
  where
    go : Either (eqb a b) → eqb (suc a) (suc b) ≡ eqb a b
    go (inl e) = rw (e, eq-eqb (suc a) (suc b) (ap suc (eqb-true a b e)))
    go (inr e) = rw (e, ne_eqb (suc a) (suc b) (λ q. eqb-false a b e (omega arith)))

-- one letter more on either side
suc_cond : (b : Bool) (n k g : ℕ) → suc (cond b (n + k) g) ≡ cond b (suc n + k) (suc g)
suc_cond true n k g = omega arith
suc_cond false n k g = refl

at_cond : (b : Bool) (at n k g : ℕ) → at + cond b (n + k) g ≡ cond b ((at + n) + k) (at + g)
at_cond true at n k g = omega arith
at_cond false at n k g = refl

-- fixed letters
module _ (K : List ℕ → ℕ) where
  fixed-joins : (w x : List ℕ) → fixed_reach w K x ≡ cond (eqb (common x w) (length w)) (length w + K (drop (length w) x)) (common x w)
  unfolding fixed_reach common
  fixed-joins [] [] = sym (zero-add (K []))
  fixed-joins [] (y ∷ u) = sym (zero-add (K (y ∷ u)))
  fixed-joins (b ∷ w) [] = rw (ne_eqb 0 (suc (length w)) (λ q. omega arith))
  fixed-joins (b ∷ w) (y ∷ u) = go (either (eqb y b)) (fixed-joins w u)
    where
      go : Either (eqb y b) → fixed_reach w K u ≡ cond (eqb (common u w) (length w)) (length w + K (drop (length w) u)) (common u w)
          → fixed_reach (b ∷ w) K (y ∷ u) ≡ cond (eqb (common (y ∷ u) (b ∷ w)) (suc (length w))) (suc (length w) + K (drop (length w) u)) (common (y ∷ u) (b ∷ w))
      go (inl e) r = rw (e, r, eqb-suc (common u w) (length w)) (suc_cond (eqb (common u w) (length w)) (length w) (K (drop (length w) u)) (common u w))
      go (inr e) r = rw (e, ne_eqb 0 (suc (length w)) (λ q. omega arith))

  pub fixed-is : (s : List ℕ) (at : ℕ) (w : List ℕ) {then r : ℕ} → then ≡ (at + length w) + K (drop (at + length w) s)
      → r ≡ cond (eqb (common (drop at s) w) (length w)) then (at + common (drop at s) w) → r ≡ at + fixed_reach w K (drop at s)
  fixed-is s at w e f =
      f ∙ rw (e, fixed-joins w (drop at s), drop-drop (length w) at s)
      (sym (at_cond (eqb (common (drop at s) w) (length w)) at (length w) (K (drop (at + length w) s)) (common (drop at s) w)))

-- fixed letters to the end
pub fixed-end : (w x : List ℕ) → common x w ≡ fixed_reach w end_reach x
unfolding fixed_reach common end_reach
fixed-end [] [] = refl
fixed-end [] (y ∷ u) = refl
fixed-end (b ∷ w) [] = refl
fixed-end (b ∷ w) (y ∷ u) = ap (λ (k : ℕ). cond (eqb y b) (suc k) 0) (fixed-end w u)

-- the methods, as the code puts them together
pub methods-are : (t : List ℕ) {a b c d e f g h q r u v w x y : ℕ} → a ≡ common t (ascii "INVITE") → b ≡ common t (ascii "BYE") → c ≡ common t (ascii "CANCEL")
    → d ≡ common t (ascii "ACK") → e ≡ common t (ascii "MESSAGE") → f ≡ common t (ascii "CALLBACK") → g ≡ common t (ascii "REFER") → h ≡ common t (ascii "NOTIFY")
    → q ≡ max g h → r ≡ max f q → u ≡ max e r → v ≡ max d u → w ≡ max c v → x ≡ max b w → y ≡ max a x → y ≡ words_reach methods t
unfolding words_reach
methods-are t a b c d e f g h q r u v w x y = rw
    (y, x, w, v, u, r, q, a, b, c, d, e, f, g, h, let z : max (common t (ascii "NOTIFY")) 0 ≡ common t (ascii "NOTIFY") = omega arith in z)

-- a number of some digits: v and the m digits at the front of a text
onto : ℕ → ℕ → List ℕ → ℕ
onto zero v x = v
onto (suc m) v x = onto m (v * 10 + (get_or x 0 0 - 48)) (drop 1 x)

onto-is : (s : List ℕ) (at m j : ℕ) → onto m (decimal_at j s at) (drop (at + j) s) ≡ decimal_at (j + m) s at
unfolding onto decimal_at
onto-is s at zero j = ap (λ (k : ℕ). decimal_at k s at) (let z : j ≡ j + 0 = omega arith in z)
onto-is s at (suc m) j =
    let z : at + suc j ≡ at + j + 1 = omega arith in
    let y : at + j + 0 ≡ at + j = omega arith in
    let x : j + suc m ≡ suc j + m = omega arith in
    rw (get_or-drop (at + j) s 0 0, y, drop-drop 1 (at + j) s, x) (rw z at (onto-is s at m (suc j)))

digits_are : (s : List ℕ) (at n : ℕ) → onto n 0 (drop at s) ≡ decimal_at n s at
unfolding decimal_at
digits_are s at n = let z : at + 0 ≡ at = omega arith in rw z at (onto-is s at n 0) ∙ ap (λ (k : ℕ). decimal_at k s at) (zero-add n)

module _ (lo hi : ℕ) (K : ℕ → List ℕ → ℕ) where
  number-joins : (m v : ℕ) (x : List ℕ)
      → number_reach lo hi K m v x ≡ cond (eqb (number_letters lo hi m v x) m) (m + K (onto m v x) (drop m x)) (number_letters lo hi m v x)
  unfolding number_reach number_letters onto
  number-joins zero v x = sym (zero-add (K v x))
  number-joins (suc m) v [] = rw (ne_eqb 0 (suc m) (λ q. omega arith))
  number-joins (suc m) v (y ∷ u) = go (either (is_digit y && meets lo hi m w)) (number-joins m w u)
    where
      w : ℕ
      w = v * 10 + (y - 48)

      go : Either (is_digit y && meets lo hi m w)
          → number_reach lo hi K m w u ≡ cond (eqb (number_letters lo hi m w u) m) (m + K (onto m w u) (drop m u)) (number_letters lo hi m w u)
          → number_reach lo hi K (suc m) v (y ∷ u) ≡ cond (eqb (number_letters lo hi (suc m) v (y ∷ u)) (suc m)) (suc m + K (onto m w u) (drop m u))
          (number_letters lo hi (suc m) v (y ∷ u))
      go (inl e) r = rw (e, r, eqb-suc (number_letters lo hi m w u) m) (suc_cond (eqb (number_letters lo hi m w u) m) m (K (onto m w u) (drop m u)) (number_letters lo hi m w u))
      go (inr e) r = rw (e, ne_eqb 0 (suc m) (λ q. omega arith))

  pub number_is : (s : List ℕ) (at n : ℕ) {then r : ℕ} → then ≡ (at + n) + K (decimal_at n s at) (drop (at + n) s)
      → r ≡ cond (eqb (number_letters lo hi n 0 (drop at s)) n) then (at + number_letters lo hi n 0 (drop at s)) → r ≡ at + number_reach lo hi K n 0 (drop at s)
  number_is s at n e f =
      f ∙ rw (e, number-joins n 0 (drop at s), drop-drop n at s, digits_are s at n)
      (sym (at_cond (eqb (number_letters lo hi n 0 (drop at s)) n) at n (K (decimal_at n s at) (drop (at + n) s)) (number_letters lo hi n 0 (drop at s))))

-- a run: whether it is whole, by its first and its last letter
module _ (lo hi : ℕ) (c e : Class) (K : List ℕ → ℕ) where
  -- whether the last of n letters and of those that follow them is of class e
  last_of : Bool → ℕ → List ℕ → Bool
  last_of l zero x = l
  last_of l (suc g) x = holds e (get_or x g 0)

  run-joins : (n : ℕ) (l : Bool) (x : List ℕ)
      → run_reach lo hi c e K n l x ≡ cond (among lo hi (n + run_letters hi c e n x) && last_of l (run_letters hi c e n x) x)
      (run_letters hi c e n x + K (drop (run_letters hi c e n x) x)) (run_letters hi c e n x)
  unfolding run_reach run_letters last_of
  run-joins n l [] = let z : n + 0 ≡ n = omega arith in rw (z, zero-add (K []))
  run-joins n l (y ∷ u) = go (either (follows hi c e n y)) (run-joins (suc n) (holds e y) u)
    where
      g : ℕ
      g = run_letters hi c e (suc n) u

      last : (g : ℕ) → last_of (holds e y) g u ≡ holds e (get_or (y ∷ u) g 0)
      last zero = refl
      last (suc g) = refl

      go : Either (follows hi c e n y) → run_reach lo hi c e K (suc n) (holds e y) u ≡ cond (among lo hi (suc n + g) && last_of (holds e y) g u) (g + K (drop g u)) g
          → run_reach lo hi c e K n l (y ∷ u)
          ≡ cond (among lo hi (n + run_letters hi c e n (y ∷ u)) && last_of l (run_letters hi c e n (y ∷ u)) (y ∷ u))
          (run_letters hi c e n (y ∷ u) + K (drop (run_letters hi c e n (y ∷ u)) (y ∷ u))) (run_letters hi c e n (y ∷ u))
      go (inl f) r =
          let z : n + suc g ≡ suc n + g = omega arith in
          rw (f, r, z, last g) (suc_cond (among lo hi (suc n + g) && holds e (get_or (y ∷ u) g 0)) g (K (drop g u)) g)
      go (inr f) r = let z : n + 0 ≡ n = omega arith in rw (f, z, zero-add (K (y ∷ u)))

  -- the first letter that follows is of class e
  first_edge : (x : List ℕ) → 0 < run_letters hi c e 0 x → holds e (get_or x 0 0) ≡ true
  unfolding run_letters follows
  first_edge [] h = absurd (omega arith)
  first_edge (y ∷ u) h = go (either (follows hi c e 0 y)) h
    where
      go : Either (follows hi c e 0 y) → 0 < run_letters hi c e 0 (y ∷ u) → holds e y ≡ true
      go (inl f) h = sym (or-false (holds e y)) ∙ and_right (holds c y) _ (and_right (ltb 0 hi) _ f)
      go (inr f) h = absurd (let z : run_letters hi c e 0 (y ∷ u) ≡ 0 = rw f in omega arith)

  whole_is : 1 ≤ lo → (s : List ℕ) (at : ℕ) (g : ℕ) → (0 < g → holds e (get_or s at 0) ≡ true) → (among lo hi (0 + g) && last_of true g (drop at s)) ≡ within lo hi e s at (at + g)
  unfolding within last_of
  whole_is h s at zero f = let z : at + 0 - at ≡ 0 = omega arith in rw (z, among-low lo hi 0 (omega arith))
  whole_is h s at (suc g) f =
      let z : at + suc g - at ≡ suc g = omega arith in
      let y : 0 + suc g ≡ suc g = omega arith in
      let x : at + suc g - 1 ≡ at + g = omega arith in
      rw (f (omega arith), z, y, x, get_or-drop at s g 0)

  pub run_is : 1 ≤ lo → (s : List ℕ) (at : ℕ) {end then r : ℕ} → end ≡ at + run_letters hi c e 0 (drop at s) → then ≡ end + K (drop end s)
      → r ≡ cond (within lo hi e s at end) then end → r ≡ at + run_reach lo hi c e K 0 true (drop at s)
  run_is h s at q t f =
      let g = run_letters hi c e 0 (drop at s) in
      let w = whole_is h s at g (λ i. ap (holds e) (ap (λ (k : ℕ). get_or s k 0) (let z : at ≡ at + 0 = omega arith in z) ∙ sym (get_or-drop at s 0 0))
      ∙ first_edge (drop at s) i) in
      f ∙ rw (t, q, ← w, run-joins 0 true (drop at s), drop-drop g at s)
      (sym (at_cond (among lo hi (0 + g) && last_of true g (drop at s)) at g (K (drop (at + g) s)) g))

-- a number without leading zeros
module _ (hi : ℕ) (K : List ℕ → ℕ) where
  count-joins : (v : ℕ) (x : List ℕ)
      → count_reach hi K v x ≡ cond (ltb 0 v || ltb 0 (count_letters hi v x)) (count_letters hi v x + K (drop (count_letters hi v x) x)) (count_letters hi v x)
  unfolding count_reach count_letters
  count-joins v [] = rw (or-false (ltb 0 v), zero-add (K []))
  count-joins v (y ∷ u) = go (either (is_digit y && among 1 hi w)) (count-joins w u)
    where
      w : ℕ
      w = v * 10 + (y - 48)

      g : ℕ
      g = count_letters hi w u

      go : Either (is_digit y && among 1 hi w) → count_reach hi K w u ≡ cond (ltb 0 w || ltb 0 g) (g + K (drop g u)) g
          → count_reach hi K v (y ∷ u) ≡ cond (ltb 0 v || ltb 0 (count_letters hi v (y ∷ u))) (count_letters hi v (y ∷ u) + K (drop (count_letters hi v (y ∷ u)) (y ∷ u)))
          (count_letters hi v (y ∷ u))
      go (inl f) r =
          let i = among_in 1 hi w (and_right (is_digit y) (among 1 hi w) f) in
          rw (f, r, lt-ltb 0 w i.0, lt-ltb 0 (suc g) (omega arith), or-true (ltb 0 v)) (omega arith)
      go (inr f) r = rw (f, or-false (ltb 0 v), zero-add (K (y ∷ u)))

  -- where there is a number, and where there is none
  pub count-is : (s : List ℕ) {end r : ℕ} → end ≡ count_letters hi 0 s → (end ≡ 0 → ⊥) → r ≡ end + K (drop end s) → r ≡ count_reach hi K 0 s
  count-is s e z f = f ∙ rw (e, count-joins 0 s, lt-ltb 0 (count_letters hi 0 s) (let i = e in omega (arith, z)))

  pub count_none : (s : List ℕ) {end : ℕ} → end ≡ count_letters hi 0 s → end ≡ 0 → 0 ≡ count_reach hi K 0 s
  count_none s e z = let q : count_letters hi 0 s ≡ 0 = sym e ∙ z in rw (count-joins 0 s, q)

-- behind the run stands the end
pub run_alone : (lo hi : ℕ) (c e : Class) (n : ℕ) (l : Bool) (x : List ℕ) → run_letters hi c e n x ≡ run_reach lo hi c e end_reach n l x
unfolding run_letters run_reach end_reach
run_alone lo hi c e n l [] = picked (λ (k : ℕ). 0 ≡ k) (among lo hi n && l) refl refl
run_alone lo hi c e n l (y ∷ u) =
    picked-alike (λ (j k : ℕ). j ≡ k) (follows hi c e n y) (ap suc (run_alone lo hi c e (suc n) (holds e y) u)) (picked (λ (k : ℕ). 0 ≡ k) (among lo hi n && l) refl refl)
