-- Letter by letter the pieces of a rule are those of `rules`: what is asked from a place on is what is asked of the rest. Assumes nothing.
use Prim.Native.Nat.{ℕ, zero, suc, ◌+◌, ◌-◌, ◌*◌, ◌≤◌, ◌<◌}
use Rattle.letters.specs.inner.Rest.{count_rest, end_rest, fixed_rest, number_rest, run_rest}
use Rattle.octets.proofs.ClassLaws.{among-low, digit_in}
use Rattle.octets.proofs.TestLaws.{Either, either, or-none}
use Rattle.octets.specs.Class.{among, is_digit}
use Rattle.octets.specs.Text.{same, stands_at}
use Rattle.rules.proofs.PieceLaws.{digits-stops, run_ends, run_more, run-stops}
use Rattle.rules.specs.Classes.{holds}
use Rattle.rules.specs.Pieces.{decimal_at, digits, run_length, within}
use Rattle.rules.specs.declared.classes.Class.TheVariants.{Digit}
use Rattle.rules.specs.declared.classes.Class.{Class}
use borrow.Author.Tests.{eq-eqb, eqb-false, eqb-true, ltb-false, ltb-true, ne_eqb, not-false}
use lib.Dec.{eqb, ltb}
use lib.ListN.{get_or-eq_default, drop, drop_of_length-le, get_or, length, length-drop, take}
use lib.Seq.{drop-cons, drop-drop}
use mathlib.Core.Bool.{Bool, true, false, not, ◌&&◌, ◌||◌, and_assoc, and-false}
use mathlib.Core.List.{List, [], ◌∷◌}
use mathlib.Core.Logic.{inl, inr}
use mathlib.Core.Path.{◌≡◌, refl, sym, ap, ◌∙◌}
use native.Mathlib.Omega.{arith}

next-letter : (s : List ℕ) (at n : ℕ) → at + n < length s → drop (at + n) s ≡ get_or s (at + n) 0 ∷ drop (at + suc n) s
next-letter s at n k = drop-cons s (at + n) 0 k ∙ ap (λ (i : ℕ). get_or s (at + n) 0 ∷ drop i s) (let q : suc (at + n) ≡ at + suc n = omega arith in q)

-- the end
pub end_same : (s : List ℕ) (at : ℕ) → at ≤ length s → eqb at (length s) ≡ end_rest (drop at s)
unfolding end_rest
end_same s at h = go (either (ltb at (length s)))
  where
    go : Either (ltb at (length s)) → eqb at (length s) ≡ end_rest (drop at s)
    go (inl e) = let k = ltb-true at (length s) e in rw (ne_eqb at (length s) (λ q. omega arith), drop-cons s at 0 k)
    go (inr e) = let k = ltb-false at (length s) e in rw (eq-eqb at (length s) (omega arith), drop_of_length-le s k)

-- fixed letters
module _ (Q : List ℕ → Bool) where
  fixed-is : (w t : List ℕ) (x : Bool) → (length w ≤ length t → x ≡ Q (drop (length w) t)) → (same (take (length w) t) w && x) ≡ fixed_rest w Q t
  unfolding fixed_rest same
  fixed-is [] t x f = f (omega arith)
  fixed-is (b ∷ w) [] x f = refl
  fixed-is (b ∷ w) (y ∷ t) x f = and_assoc (eqb y b) (same (take (length w) t) w) x ∙ ap (λ (c : Bool). eqb y b && c) (fixed-is w t x (λ h. f (omega arith)))

  pub fixed_same : (s : List ℕ) (at : ℕ) (w : List ℕ) (x : Bool) → at ≤ length s → (at + length w ≤ length s → x ≡ Q (drop (at + length w) s))
      → (stands_at s at w && x) ≡ fixed_rest w Q (drop at s)
  unfolding stands_at
  fixed_same s at w x h f = fixed-is w (drop at s) x (λ k. rw (drop-drop (length w) at s) (f (omega (arith, length-drop at s))))

-- one more digit
digits-next : (s : List ℕ) (at j : ℕ) → digits j s at ≡ true → is_digit (get_or s (at + j) 0) ≡ true → digits (suc j) s at ≡ true
unfolding digits
digits-next s at j d e = rw (d, e)

value-next : (s : List ℕ) (at j v : ℕ) → v ≡ decimal_at j s at → v * 10 + (get_or s (at + j) 0 - 48) ≡ decimal_at (suc j) s at
unfolding decimal_at
value-next s at j v e = rw e

-- a number of some digits: j of them are read, and are v
no_digit : is_digit 0 ≡ false
unfolding is_digit among
no_digit = refl

module _ (s : List ℕ) (at lo hi : ℕ) (Q : ℕ → List ℕ → Bool) (x : Bool) (n : ℕ) (tail : at + n ≤ length s → x ≡ Q (decimal_at n s at) (drop (at + n) s)) where
  abbrev asked : Bool
  asked = (digits n s at && among lo hi (decimal_at n s at)) && x

  digits_same : (m j v : ℕ) → n ≡ j + m → digits j s at ≡ true → v ≡ decimal_at j s at → at + j ≤ length s → asked ≡ number_rest lo hi Q m v (drop (at + j) s)
  unfolding number_rest
  digits_same zero j v p d w h = let q : n ≡ j = omega arith in rw (tail (omega arith), q, d, w)
  digits_same (suc m) j v p d w h = go (either (ltb (at + j) (length s))) (either (is_digit y))
      (λ k e. digits_same m (suc j) z (omega arith) (digits-next s at j d e) (value-next s at j v w) (omega arith))
    where
      y : ℕ
      y = get_or s (at + j) 0

      z : ℕ
      z = v * 10 + (y - 48)

      broken : is_digit y ≡ false → asked ≡ false
      broken e = rw (digits-stops s at j n (omega arith) e)

      go : Either (ltb (at + j) (length s)) → Either (is_digit y) → (at + j < length s → is_digit y ≡ true → asked ≡ number_rest lo hi Q m z (drop (at + suc j) s))
          → asked ≡ number_rest lo hi Q (suc m) v (drop (at + j) s)
      go (inl g) (inl e) r = let k = ltb-true (at + j) (length s) g in r k e ∙ rw (next-letter s at j k, e)
      go (inl g) (inr e) r = broken e ∙ rw (next-letter s at j (ltb-true (at + j) (length s) g), e)
      go (inr g) e r = let k = ltb-false (at + j) (length s) g in broken (rw (get_or-eq_default s 0 k) no_digit) ∙ rw (drop_of_length-le s k)

  pub number_same : at ≤ length s → asked ≡ number_rest lo hi Q n 0 (drop at s)
  unfolding digits decimal_at
  number_same h = let z : at + 0 ≡ at = omega arith in rw z at (digits_same n 0 0 (omega arith) refl refl (omega arith))

-- a run: n letters of it are read, and the last was of class e or not
module _ (lo hi : ℕ) (c e : Class) (Q : List ℕ → Bool) (s : List ℕ) (at end : ℕ) (x : Bool) (some : 1 ≤ lo) (tail : end ≤ length s → x ≡ Q (drop end s)) where
  record Run (n : ℕ) (l : Bool) : Type 0 where
    ends : end ≡ (at + n) + run_length c (drop (at + n) s)
    inside : at + n ≤ length s
    first : 0 < n → holds e (get_or s at 0) ≡ true
    last : 0 < n → l ≡ holds e (get_or s (at + n - 1) 0)

  -- the run ends here
  run-over : (n : ℕ) (l : Bool) → Run n l → end ≡ at + n → (within lo hi e s at end && x) ≡ ((among lo hi n && l) && Q (drop (at + n) s))
  unfolding within
  run-over n l r z = let y : at + n - at ≡ n = omega arith in rw (tail (omega (arith, r.inside)), z, y) (go n r.first r.last)
    where
      go : (m : ℕ) → (0 < m → holds e (get_or s at 0) ≡ true) → (0 < m → l ≡ holds e (get_or s (at + m - 1) 0))
          → ((among lo hi m && (holds e (get_or s at 0) && holds e (get_or s (at + m - 1) 0))) && Q (drop (at + m) s)) ≡ ((among lo hi m && l) && Q (drop (at + m) s))
      go zero f g = rw (among-low lo hi 0 (omega arith))
      go (suc m) f g = rw (f (omega arith), g (omega arith))

  -- a letter that goes on with it, and one that cannot be its first
  module _ (n : ℕ) (l : Bool) (r : Run n l) (k : at + n < length s) where
    run_on : holds c (get_or s (at + n) 0) ≡ true → (not (eqb n 0) || holds e (get_or s (at + n) 0)) ≡ true → Run (suc n) (holds e (get_or s (at + n) 0))
    run_on a b = record {
      ends = r.ends ∙ run_more c s (at + n) k a ∙ ap (λ (j : ℕ). j + run_length c (drop j s)) (let z : at + n + 1 ≡ at + suc n = omega arith in z);
      inside = omega arith;
      first = λ h. go (either (eqb n 0));
      last = λ h. rw (let z : at + suc n - 1 ≡ at + n = omega arith in z);
    }
      where
        go : Either (eqb n 0) → holds e (get_or s at 0) ≡ true
        go (inl z) = ap (λ (j : ℕ). holds e (get_or s j 0)) (let y : at ≡ at + n = let w = eqb-true n 0 z in omega arith in y) ∙ rw z at b
        go (inr z) = r.first (let w = eqb-false n 0 z in omega arith)

    run-bad : (not (eqb n 0) || holds e (get_or s (at + n) 0)) ≡ false → (within lo hi e s at end && x) ≡ false
    unfolding within
    run-bad b =
        let p = or-none (not (eqb n 0)) (holds e (get_or s (at + n) 0)) b in
        let z : at + n ≡ at = let w = eqb-true n 0 (not-false _ p.0) in omega arith in
        let q : holds e (get_or s at 0) ≡ false = rw z at p.1 in
        rw (q, and-false (among lo hi (end - at)))

  run-from : (m n : ℕ) (l : Bool) → length s ≤ at + n + m → Run n l → (within lo hi e s at end && x) ≡ run_rest lo hi c e Q n l (drop (at + n) s)
  unfolding run_rest
  run-from zero n l h r = run-over n l r (r.ends ∙ run_ends c s (at + n) (omega arith)) ∙ rw (drop_of_length-le s (let k : length s ≤ at + n = omega arith in k))
  run-from (suc m) n l h r =
      go (either (ltb (at + n) (length s))) (either (holds c y)) (either (not (eqb n 0) || holds e y)) (λ k a b. run-from m (suc n) (holds e y) (omega arith) (run_on n l r k a b))
    where
      y : ℕ
      y = get_or s (at + n) 0

      left : Bool
      left = within lo hi e s at end && x

      go : Either (ltb (at + n) (length s)) → Either (holds c y) → Either (not (eqb n 0) || holds e y)
          → (at + n < length s → holds c y ≡ true → (not (eqb n 0) || holds e y) ≡ true → left ≡ run_rest lo hi c e Q (suc n) (holds e y) (drop (at + suc n) s))
          → left ≡ run_rest lo hi c e Q n l (drop (at + n) s)
      go (inr g) a b f = let k = ltb-false (at + n) (length s) g in run-over n l r (r.ends ∙ run_ends c s (at + n) k) ∙ rw (drop_of_length-le s k)
      go (inl g) (inr a) b f =
          let k = ltb-true (at + n) (length s) g in
          run-over n l r (r.ends ∙ run-stops c s (at + n) k a) ∙ rw (next-letter s at n k, a)
      go (inl g) (inl a) (inl b) f = let k = ltb-true (at + n) (length s) g in f k a b ∙ rw (next-letter s at n k, a, b)
      go (inl g) (inl a) (inr b) f = let k = ltb-true (at + n) (length s) g in run-bad n l r k b ∙ rw (next-letter s at n k, a, b)

  pub run-same : at ≤ length s → end ≡ at + run_length c (drop at s) → (within lo hi e s at end && x) ≡ run_rest lo hi c e Q 0 true (drop at s)
  run-same h p =
      let z : at + 0 ≡ at = omega arith in
      rw z at (run-from (length s) 0 true (omega arith)
      (record { ends = p ∙ ap (λ (j : ℕ). j + run_length c (drop j s)) (sym z); inside = omega arith; first = λ h. absurd (omega arith); last = λ h. absurd (omega arith) }))

not_digit : (b : ℕ) → is_digit b ≡ false → holds Digit b ≡ false
unfolding holds
not_digit b e = e

-- a number without leading zeros: n digits of it are read, and are v
module _ (hi : ℕ) (Q : List ℕ → Bool) (s : List ℕ) (at : ℕ) (x : Bool) (tail : at + run_length Digit (drop at s) ≤ length s → x ≡ Q (drop (at + run_length Digit (drop at s)) s))
  where
    abbrev size : ℕ
    size = run_length Digit (drop at s)

    abbrev counted : Bool
    counted = (not (eqb (get_or s at 0) 48) && among 1 hi (decimal_at size s at)) && x

    record Count (n v : ℕ) : Type 0 where
      ends : at + size ≡ (at + n) + run_length Digit (drop (at + n) s)
      inside : at + n ≤ length s
      is : v ≡ decimal_at n s at
      first : 0 < n → eqb (get_or s at 0) 48 ≡ false
      some : 0 < n → 0 < v

    count-over : (n v : ℕ) → Count n v → at + size ≡ at + n → counted ≡ (among 1 hi v && Q (drop (at + n) s))
    unfolding decimal_at
    count-over n v r z =
        let y : size ≡ n = omega arith in
        rw (tail (let i = r.inside in omega arith), y, ← r.is) (go n v r.is r.first)
      where
        go : (n v : ℕ) → v ≡ decimal_at n s at → (0 < n → eqb (get_or s at 0) 48 ≡ false)
            → ((not (eqb (get_or s at 0) 48) && among 1 hi v) && Q (drop (at + n) s)) ≡ (among 1 hi v && Q (drop (at + n) s))
        go zero v e f = rw (e, among-low 1 hi 0 (omega arith), and-false (not (eqb (get_or s at 0) 48)))
        go (suc n) v e f = rw (f (omega arith))

    no-digits : decimal_at 0 s at ≡ 0
    unfolding decimal_at
    no-digits = refl

    module _ (n v : ℕ) (r : Count n v) (k : at + n < length s) (a : is_digit (get_or s (at + n) 0) ≡ true) where
      abbrev next : ℕ
      next = v * 10 + (get_or s (at + n) 0 - 48)

      count-on : 0 < next → Count (suc n) next
      unfolding holds
      count-on p = record {
        ends = r.ends ∙ run_more Digit s (at + n) k a ∙ ap (λ (j : ℕ). j + run_length Digit (drop j s)) (let z : at + n + 1 ≡ at + suc n = omega arith in z);
        inside = omega arith;
        is = value-next s at n v r.is;
        first = λ h. go (either (eqb n 0));
        some = λ h. p;
      }
        where
          go : Either (eqb n 0) → eqb (get_or s at 0) 48 ≡ false
          go (inl z) =
              let w : n ≡ 0 = eqb-true n 0 z in
              let y : at + n ≡ at = omega arith in
              let q : v ≡ 0 = r.is ∙ ap (λ (j : ℕ). decimal_at j s at) w ∙ no-digits in
              let i : 0 < v * 10 + (get_or s at 0 - 48) = rw y at p in
              ne_eqb (get_or s at 0) 48 (λ e. omega arith)
          go (inr z) = r.first (let w = eqb-false n 0 z in omega arith)

      count-bad : next ≡ 0 → counted ≡ false
      count-bad z =
          let d = digit_in (get_or s (at + n) 0) a in
          let w : n ≡ 0 = go (either (ltb 0 n)) in
          let y : at + n ≡ at = omega arith in
          let q : get_or s at 0 ≡ 48 = ap (λ (j : ℕ). get_or s j 0) (sym y) ∙ (let i : get_or s (at + n) 0 ≡ 48 = omega arith in i) in
          rw (eq-eqb (get_or s at 0) 48 q)
        where
          go : Either (ltb 0 n) → n ≡ 0
          go (inl h) = absurd (let i = r.some (ltb-true 0 n h) in omega arith)
          go (inr h) = let i = ltb-false 0 n h in omega arith

    count-from : (m n v : ℕ) → length s ≤ at + n + m → Count n v → counted ≡ count_rest hi Q v (drop (at + n) s)
    unfolding count_rest
    count-from zero n v h r = count-over n v r (r.ends ∙ run_ends Digit s (at + n) (omega arith)) ∙ rw (drop_of_length-le s (let k : length s ≤ at + n = omega arith in k))
    count-from (suc m) n v h r =
        go (either (ltb (at + n) (length s))) (either (is_digit y)) (either (ltb 0 w)) (λ k a b. count-from m (suc n) w (omega arith) (count-on n v r k a b))
      where
        y : ℕ
        y = get_or s (at + n) 0

        w : ℕ
        w = v * 10 + (y - 48)

        go : Either (ltb (at + n) (length s)) → Either (is_digit y) → Either (ltb 0 w)
            → (at + n < length s → is_digit y ≡ true → 0 < w → counted ≡ count_rest hi Q w (drop (at + suc n) s)) → counted ≡ count_rest hi Q v (drop (at + n) s)
        go (inr g) a b f = let k = ltb-false (at + n) (length s) g in count-over n v r (r.ends ∙ run_ends Digit s (at + n) k) ∙ rw (drop_of_length-le s k)
        go (inl g) (inr a) b f =
            let k = ltb-true (at + n) (length s) g in
            count-over n v r (r.ends ∙ run-stops Digit s (at + n) k (not_digit (get_or s (at + n) 0) a)) ∙ rw (next-letter s at n k, a)
        go (inl g) (inl a) (inl b) f = let k = ltb-true (at + n) (length s) g in f k a (ltb-true 0 w b) ∙ rw (next-letter s at n k, a, b)
        go (inl g) (inl a) (inr b) f = let k = ltb-true (at + n) (length s) g in count-bad n v r k a (let i = ltb-false 0 w b in omega arith) ∙ rw (next-letter s at n k, a, b)

    pub count_same : at ≤ length s → counted ≡ count_rest hi Q 0 (drop at s)
    count_same h =
        let z : at + 0 ≡ at = omega arith in
        rw z at (count-from (length s) 0 0 (omega arith)
        (record {
          ends = ap (λ (j : ℕ). j + run_length Digit (drop j s)) (sym z);
          inside = omega arith;
          is = sym no-digits;
          first = λ h. absurd (omega arith);
          some = λ h. absurd (omega arith);
        }))
