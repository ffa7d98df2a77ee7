-- The reach of a number without leading zeros. Behind it stands what no digit can begin. Assumes nothing.
use Prim.Native.Nat.{ℕ, ◌+◌, ◌-◌, ◌*◌, ◌≤◌, ◌<◌}
use Rattle.letters.proofs.Reaches.{Reaches, at-end, at-letter, here, none-either, none_here, none_left, opens, past-letter}
use Rattle.letters.specs.BadLetter.{Begins}
use Rattle.letters.specs.inner.Reach.{count_reach}
use Rattle.letters.specs.inner.Rest.{count_rest}
use Rattle.octets.proofs.ClassLaws.{among-high, among_in, among-low, in_among}
use Rattle.octets.proofs.TestLaws.{Either, clash, either}
use Rattle.octets.specs.Class.{among, is_digit}
use borrow.Author.Tests.{lt-ltb, ltb-false, ltb-true}
use lib.Dec.{ltb}
use mathlib.Core.Bool.{Bool, true, false, and-false}
use mathlib.Core.List.{List, [], ◌∷◌}
use mathlib.Core.Logic.{inl, inr}
use mathlib.Core.Path.{◌≡◌}
use native.Mathlib.Omega.{arith}

module _ (hi : ℕ) (Q : List ℕ → Bool) (room : 1 ≤ hi) where
  too_high : (v : ℕ) (u : List ℕ) → hi < v → count_rest hi Q v u ≡ false
  unfolding count_rest
  too_high v [] h = rw (among-high 1 hi v (omega arith) h)
  too_high v (x ∷ u) h = go (either (is_digit x)) (too_high (v * 10 + (x - 48)) u (omega arith))
    where
      go : Either (is_digit x) → count_rest hi Q (v * 10 + (x - 48)) u ≡ false → count_rest hi Q v (x ∷ u) ≡ false
      go (inl k) r = rw (k, r) (and-false (ltb 0 (v * 10 + (x - 48))))
      go (inr k) r = rw (k, among-high 1 hi v (omega arith) h)

  module _ {K : List ℕ → ℕ} (shut : (x : ℕ) (u : List ℕ) → is_digit x ≡ true → Q (x ∷ u) ≡ false) (goes : (t : List ℕ) → Reaches Q t (K t)) where
    number-opens : (v : ℕ) → 1 ≤ v → v ≤ hi → Begins (count_rest hi Q v) []
    unfolding count_rest
    number-opens v h k = let b = opens (goes []) in record { rest = b.rest; allowed = go b.rest b.allowed }
      where
        go : (r : List ℕ) → Q r ≡ true → count_rest hi Q v r ≡ true
        go [] q = rw (in_among 1 hi v h k) q
        go (x ∷ u) q = by (either (is_digit x))
          where
            by : Either (is_digit x) → count_rest hi Q v (x ∷ u) ≡ true
            by (inl i) = clash q (shut x u i)
            by (inr i) = rw (i, in_among 1 hi v h k) q

    -- before the first digit a 1 opens it
    one-opens : Begins (count_rest hi Q 1) [] → Begins (count_rest hi Q 0) []
    unfolding count_rest is_digit among
    one-opens b = record { rest = 49 ∷ b.rest; allowed = b.allowed }

    count-opens : (v : ℕ) → v ≤ hi → Begins (count_rest hi Q v) []
    count-opens v h = go (either (ltb 0 v))
      where
        go : Either (ltb 0 v) → Begins (count_rest hi Q v) []
        go (inl a) = let i = ltb-true 0 v a in number-opens v (omega arith) h
        go (inr a) = let z : v ≡ 0 = let i = ltb-false 0 v a in omega arith in rw z (one-opens (number-opens 1 (omega arith) room))

    pub count_reaches : (t : List ℕ) (v : ℕ) → v ≤ hi → Reaches (count_rest hi Q v) t (count_reach hi K v t)
    unfolding count_reach count_rest
    count_reaches [] v h = rw (none-either (ltb 0 v) (none_left (goes []))) (at-end (count-opens v h))
    count_reaches (x ∷ t) v h = go (either (is_digit x)) (either (among 1 hi w)) (either (ltb 0 v)) (count_reaches t w)
      where
        w : ℕ
        w = v * 10 + (x - 48)

        opened : Begins (count_rest hi Q v) []
        opened = count-opens v h

        Next : Type 0
        Next = w ≤ hi → Reaches (count_rest hi Q w) t (count_reach hi K w t)

        no_more : is_digit x ≡ true → among 1 hi w ≡ false → (u : List ℕ) → count_rest hi Q v (x ∷ u) ≡ false
        no_more d a u = by (either (ltb 0 w)) (either (ltb hi w))
          where
            by : Either (ltb 0 w) → Either (ltb hi w) → count_rest hi Q v (x ∷ u) ≡ false
            by (inr p) q = rw (d, p)
            by (inl p) (inl q) = rw (d, p, too_high w u (ltb-true hi w q))
            by (inl p) (inr q) = let i = ltb-true 0 w p in let j = ltb-false hi w q in clash (in_among 1 hi w (omega arith) (omega arith)) a

        go : Either (is_digit x) → Either (among 1 hi w) → Either (ltb 0 v) → Next → Reaches (count_rest hi Q v) (x ∷ t) (count_reach hi K v (x ∷ t))
        go (inl d) (inl a) p next = let i = among_in 1 hi w a in rw (d, a) (past-letter (λ u. rw (d, lt-ltb 0 w (omega arith))) (next i.1))
        go (inl d) (inr a) p next =
            rw (d, a, none-either (ltb 0 v) (none_here (K (x ∷ t)) (λ u. shut x u d) (goes (x ∷ t)))) (at-letter opened (no_more d a))
        go (inr d) a (inl p) next =
            let i = ltb-true 0 v p in
            rw (d, p) (here (K (x ∷ t)) opened (λ u. rw (d, in_among 1 hi v (omega arith) h)) (goes (x ∷ t)))
        go (inr d) a (inr p) next =
            let z : v ≡ 0 = let i = ltb-false 0 v p in omega arith in
            rw (d, p) (at-letter opened (λ u. rw (d, among-low 1 hi v (omega arith))))
