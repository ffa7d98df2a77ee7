-- The reach of a number of some digits: digits go on as long as what they begin can become a number within its limits. Assumes nothing.
use Prim.Native.Nat.{ℕ, zero, suc, ◌+◌, ◌-◌, ◌*◌, ◌≤◌}
use Rattle.letters.proofs.Reaches.{Reaches, at-end, at-letter, opens, past-letter, same_reaches}
use Rattle.letters.specs.BadLetter.{Begins}
use Rattle.letters.specs.inner.Reach.{low, meets, number_reach, top}
use Rattle.letters.specs.inner.Rest.{number_rest}
use Rattle.octets.proofs.ClassLaws.{among_in, digit_in, in_among}
use Rattle.octets.proofs.TestLaws.{Either, and_parts, clash, either, fails}
use Rattle.octets.specs.Class.{among, is_digit}
use borrow.Author.Tests.{le-leb, leb-false, leb-true}
use lib.Dec.{leb}
use mathlib.Core.Bool.{Bool, true, false, ◌&&◌, and-false}
use mathlib.Core.List.{List, [], ◌∷◌}
use mathlib.Core.Logic.{inl, inr}
use mathlib.Core.Path.{◌≡◌, refl}
use native.Mathlib.Omega.{arith}

-- the numbers that v + 1 can become come right behind those of v
next_low : (m v : ℕ) → low m (v + 1) ≡ top m v + 1
unfolding low top
next_low zero v = refl
next_low (suc m) v = rw (let e : (v + 1) * 10 ≡ (v * 10 + 9) + 1 = omega arith in e) (next_low m (v * 10 + 9))

low-rises : (m v w : ℕ) → v ≤ w → low m v ≤ low m w
unfolding low
low-rises zero v w h = h
low-rises (suc m) v w h = low-rises m (v * 10) (w * 10) (omega arith)

top-rises : (m v w : ℕ) → v ≤ w → top m v ≤ top m w
unfolding top
top-rises zero v w h = h
top-rises (suc m) v w h = top-rises m (v * 10 + 9) (w * 10 + 9) (omega arith)

meets-is : (lo hi m v : ℕ) → lo ≤ top m v → low m v ≤ hi → meets lo hi m v ≡ true
unfolding meets
meets-is lo hi m v a b = rw (le-leb lo (top m v) a, le-leb (low m v) hi b)

pub is-meets : (lo hi m v : ℕ) → meets lo hi m v ≡ true → (lo ≤ top m v) × (low m v ≤ hi)
unfolding meets
is-meets lo hi m v e = let p = and_parts (leb lo (top m v)) (leb (low m v) hi) e in (leb-true lo (top m v) p.0, leb-true (low m v) hi p.1)

record Digit (lo hi m v : ℕ) : Type 0 where
  digit : ℕ
  small : digit ≤ 9
  fits : meets lo hi m (v * 10 + digit) ≡ true

-- some next digit goes on: the highest that is not too high
next-digit : (lo hi m v : ℕ) → lo ≤ hi → low m (v * 10) ≤ hi → (d : ℕ) → d ≤ 9 → lo ≤ top m (v * 10 + d) → Digit lo hi m v
next-digit lo hi m v h k zero s e =
    let z : v * 10 + 0 ≡ v * 10 = omega arith in
    record { digit = 0; small = omega arith; fits = meets-is lo hi m (v * 10 + 0) e (rw z k) }
next-digit lo hi m v h k (suc d) s e = go (either (leb (low m (v * 10 + suc d)) hi)) (λ g. next-digit lo hi m v h k d (omega arith) g)
  where
    go : Either (leb (low m (v * 10 + suc d)) hi) → (lo ≤ top m (v * 10 + d) → Digit lo hi m v) → Digit lo hi m v
    go (inl f) r = record { digit = suc d; small = s; fits = meets-is lo hi m (v * 10 + suc d) e (leb-true _ hi f) }
    go (inr f) r =
        let z : v * 10 + suc d ≡ (v * 10 + d) + 1 = omega arith in
        let q : low m (v * 10 + suc d) ≡ top m (v * 10 + d) + 1 = rw z (next_low m (v * 10 + d)) in
        r (omega (arith, leb-false (low m (v * 10 + suc d)) hi f))

digit-is : (d : ℕ) → d ≤ 9 → is_digit (48 + d) ≡ true
unfolding is_digit
digit-is d h = in_among 48 57 (48 + d) (omega arith) (omega arith)

module _ {lo hi : ℕ} {Q : ℕ → List ℕ → Bool} {K : ℕ → List ℕ → ℕ} (some : lo ≤ hi) (goes : (v : ℕ) → lo ≤ v → v ≤ hi → (t : List ℕ) → Reaches (Q v) t (K v t)) where
  number-opens : (m v : ℕ) → meets lo hi m v ≡ true → Begins (number_rest lo hi Q m v) []
  unfolding number_rest low top
  number-opens zero v e =
      let p = is-meets lo hi 0 v e in
      let b = opens (goes v p.0 p.1 []) in
      record { rest = b.rest; allowed = rw (in_among lo hi v p.0 p.1) b.allowed }
  number-opens (suc m) v e =
      let p = is-meets lo hi (suc m) v e in
      let d = next-digit lo hi m v some p.1 9 (omega arith) p.0 in
      let b = number-opens m (v * 10 + d.digit) d.fits in
      let z : (48 + d.digit) - 48 ≡ d.digit = omega arith in
      record { rest = (48 + d.digit) ∷ b.rest; allowed = rw (digit-is d.digit d.small, z) b.allowed }

  -- what cannot become such a number begins none
  number-ends : (m v : ℕ) → meets lo hi m v ≡ false → (u : List ℕ) → number_rest lo hi Q m v u ≡ false
  unfolding number_rest low top
  number-ends zero v e u = rw (fails (among lo hi v) (λ g. let p = among_in lo hi v g in clash (meets-is lo hi 0 v p.0 p.1) e))
  number-ends (suc m) v e [] = refl
  number-ends (suc m) v e (x ∷ u) = go (either (is_digit x)) (either (meets lo hi m (v * 10 + (x - 48)))) (λ g. number-ends m (v * 10 + (x - 48)) g u)
    where
      w : ℕ
      w = v * 10 + (x - 48)

      go : Either (is_digit x) → Either (meets lo hi m w) → (meets lo hi m w ≡ false → number_rest lo hi Q m w u ≡ false) → (is_digit x && number_rest lo hi Q m w u) ≡ false
      go (inl d) (inl g) r =
          let p = is-meets lo hi m w g in
          let i = digit_in x d in
          clash (meets-is lo hi (suc m) v (omega (arith, top-rises m w (v * 10 + 9) (omega arith))) (omega (arith, low-rises m (v * 10) w (omega arith)))) e
      go (inl d) (inr g) r = rw (r g) (and-false (is_digit x))
      go (inr d) k r = rw d

  pub number_reaches : (m v : ℕ) (t : List ℕ) → meets lo hi m v ≡ true → Reaches (number_rest lo hi Q m v) t (number_reach lo hi K m v t)
  unfolding number_rest number_reach low top
  number_reaches zero v t e =
      let p = is-meets lo hi 0 v e in
      same_reaches (λ u. rw (in_among lo hi v p.0 p.1)) (goes v p.0 p.1 t)
  number_reaches (suc m) v [] e = at-end (number-opens (suc m) v e)
  number_reaches (suc m) v (x ∷ t) e = go (either (is_digit x)) (either (meets lo hi m w)) (λ g. number_reaches m w t g)
    where
      w : ℕ
      w = v * 10 + (x - 48)

      go : Either (is_digit x) → Either (meets lo hi m w) → (meets lo hi m w ≡ true → Reaches (number_rest lo hi Q m w) t (number_reach lo hi K m w t))
          → Reaches (number_rest lo hi Q (suc m) v) (x ∷ t) (number_reach lo hi K (suc m) v (x ∷ t))
      go (inl d) (inl g) r = rw (d, g) (past-letter (λ u. rw d) (r g))
      go (inl d) (inr g) r = rw (d, g) (at-letter (number-opens (suc m) v e) (λ u. rw (d, number-ends m w g u)))
      go (inr d) k r = rw d (at-letter (number-opens (suc m) v e) (λ u. rw d))
