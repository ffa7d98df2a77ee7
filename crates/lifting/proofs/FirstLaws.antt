-- What a search for the first says, and how counts of two tests compare. Assumes nothing.
use Prim.Native.Nat.{ℕ, zero, suc, ◌+◌, ◌<◌}
use Rattle.lifting.specs.inner.First.{first, bit, count}
use mathlib.Core.Bool.{Bool, true, false, cond}
use mathlib.Core.Path.{◌≡◌, refl, sym}
use native.Mathlib.Decide.{ℕ_discrete}
use native.Mathlib.Nat.{not-suc-le-zero, le_of_suc-le-suc}
use native.Mathlib.Omega.{arith}

abbrev shift : (ℕ → Bool) → ℕ → Bool
shift p k = p (suc k)

-- nothing before the first passes
pub first-before : (p : ℕ → Bool) (n k : ℕ) → k < first p n → p k ≡ false
unfolding first
first-before p zero k h = absurd (not-suc-le-zero h)
first-before p (suc n) k h = go (first-before (shift p) n) (p zero) refl k h
  where
    go : ((k : ℕ) → k < first (shift p) n → p (suc k) ≡ false) → (b : Bool) → p zero ≡ b → (k : ℕ) → k < cond b zero (suc (first (shift p) n)) → p k ≡ false
    go ih true e k h = absurd (not-suc-le-zero h)
    go ih false e zero h = e
    go ih false e (suc k) h = ih k (le_of_suc-le-suc h)

-- the first passes, if it is below n
pub first-hit : (p : ℕ → Bool) (n : ℕ) → first p n < n → p (first p n) ≡ true
unfolding first
first-hit p zero h = absurd (not-suc-le-zero h)
first-hit p (suc n) h = go (first-hit (shift p) n) (p zero) refl h
  where
    go : (first (shift p) n < n → p (suc (first (shift p) n)) ≡ true) → (b : Bool) → p zero ≡ b
        → cond b zero (suc (first (shift p) n)) < suc n → p (cond b zero (suc (first (shift p) n))) ≡ true
    go ih true e h = e
    go ih false e h = ih (le_of_suc-le-suc h)

-- two tests that agree count the same
pub count_same : (p q : ℕ → Bool) (n : ℕ) → ((k : ℕ) → k < n → p k ≡ q k) → count p n ≡ count q n
unfolding count
count_same p q zero f = refl
count_same p q (suc n) f = rw (f n (omega arith), count_same p q n (λ k l. f k (omega arith)))

-- two tests that agree but at i
pub count_but : (p q : ℕ → Bool) (n i : ℕ) → i < n → ((k : ℕ) → k < n → (k ≡ i → ⊥) → p k ≡ q k)
    → count p n + bit (q i) ≡ count q n + bit (p i)
unfolding count
count_but p q zero i h f = absurd (not-suc-le-zero h)
count_but p q (suc n) i h f = go (count_but p q n i) (ℕ_discrete i n)
  where
    go : (i < n → ((k : ℕ) → k < n → (k ≡ i → ⊥) → p k ≡ q k) → count p n + bit (q i) ≡ count q n + bit (p i))
        → Dec (i ≡ n) → bit (p n) + count p n + bit (q i) ≡ bit (q n) + count q n + bit (p i)
    go ih (yes e) =
        let s : count p n ≡ count q n = count_same p q n (λ k l. f k (omega arith) (λ w. omega arith)) in
        rw (e, s) (omega arith)
    go ih (no ne) =
        let r : count p n + bit (q i) ≡ count q n + bit (p i) = ih (omega arith) (λ k l w. f k (omega arith) w) in
        rw (f n (omega arith) (λ w. ne (sym w))) (omega arith)
