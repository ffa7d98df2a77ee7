-- What a test on every number below a bound, a search and a count say, each by one number more. Assumes nothing.
use Rattle.std.specs.Prelude.{Some, None}
use Prim.Native.Nat.{ℕ, zero, suc, ◌+◌, ◌<◌}
use Rattle.octets.proofs.TestLaws.{clash, and_both, and_left, and_right, Either, either}
use Rattle.table.specs.Search.{found_if, or_else, lowest_found, every}
use Rattle.table.specs.inner.Count.{bit, tally}
use mathlib.Core.Bool.{Bool, true, false}
use mathlib.Core.Logic.{inl, inr}
use mathlib.Core.Path.{◌≡◌, refl, sym}
use native.Mathlib.Decide.{ℕ_discrete}
use native.Mathlib.Omega.{arith}

-- every number below n passes
pub all-every : (p : ℕ → Bool) (n : ℕ) → ((k : ℕ) → k < n → p k ≡ true) → every p n ≡ true
unfolding every
all-every p zero f = refl
all-every p (suc n) f = and_both (all-every p n (λ k h. f k (omega arith))) (f n (omega arith))

pub every-at : (p : ℕ → Bool) (n k : ℕ) → every p n ≡ true → k < n → p k ≡ true
unfolding every
every-at p zero k e h = absurd (omega arith)
every-at p (suc n) k e h = go (ℕ_discrete k n) (every-at p n k (and_left (every p n) (p n) e))
  where
    go : Dec (k ≡ n) → (k < n → p k ≡ true) → p k ≡ true
    go (yes w) f = rw w (and_right (every p n) (p n) e)
    go (no w) f = f (omega arith)

pub every-stops : (p : ℕ → Bool) (n k : ℕ) → k < n → p k ≡ false → every p n ≡ false
every-stops p n k h e = go (either (every p n))
  where
    go : Either (every p n) → every p n ≡ false
    go (inl w) = absurd (clash (every-at p n k w h) e)
    go (inr w) = w

-- the search
pub none-lowest : (p : ℕ → Bool) (n : ℕ) → ((k : ℕ) → k < n → p k ≡ false) → None ≡ lowest_found p n
unfolding lowest_found
none-lowest p zero f = refl
none-lowest p (suc n) f = rw (← none-lowest p n (λ k h. f k (omega arith)), f n (omega arith))

pub at-lowest : (p : ℕ → Bool) (n i : ℕ) → i < n → p i ≡ true → ((k : ℕ) → k < i → p k ≡ false) → Some i ≡ lowest_found p n
unfolding lowest_found
at-lowest p zero i h e f = absurd (omega arith)
at-lowest p (suc n) i h e f = go (ℕ_discrete i n) (λ g. at-lowest p n i g e f)
  where
    go : Dec (i ≡ n) → (i < n → Some i ≡ lowest_found p n) → Some i ≡ or_else (lowest_found p n) (found_if (p n) n)
    go (yes w) g = rw (← none-lowest p n (λ k l. f k (omega arith)), ← w, e)
    go (no w) g = rw (← g (omega arith))

-- what a place that was found says
pub record Is (p : ℕ → Bool) (n i : ℕ) : Type 0 where
  pub inside : i < n
  pub passes : p i ≡ true
  pub before : (k : ℕ) → k < i → p k ≡ false

-- a search finds the lowest, or nothing passes
pub data Searched (p : ℕ → Bool) (n : ℕ) : Type 0 where
  at : (i : ℕ) → lowest_found p n ≡ Some i → Is p n i → Searched p n
  nowhere : lowest_found p n ≡ None → ((k : ℕ) → k < n → p k ≡ false) → Searched p n

pub searched : (p : ℕ → Bool) (n : ℕ) → Searched p n
unfolding lowest_found
searched p zero = nowhere refl (λ k h. absurd (omega arith))
searched p (suc n) = go (searched p n) (either (p n))
  where
    go : Searched p n → Either (p n) → Searched p (suc n)
    go (at i e s) w = at i (rw e) (record { inside = let h = s.inside in omega arith; passes = s.passes; before = s.before })
    go (nowhere e f) (inl w) = at n (rw (e, w)) (record { inside = omega arith; passes = w; before = f })
    go (nowhere e f) (inr w) = nowhere (rw (e, w)) (λ k h. last k h (ℕ_discrete k n) f)
      where
        last : (k : ℕ) → k < suc n → Dec (k ≡ n) → ((k : ℕ) → k < n → p k ≡ false) → p k ≡ false
        last k h (yes q) f = rw q w
        last k h (no q) f = f k (omega arith)

-- found at i: the record there passes, and none before it
pub lowest-is : (p : ℕ → Bool) (n i : ℕ) → lowest_found p n ≡ Some i → Is p n i
lowest-is p n i e = go (searched p n)
  where
    go : Searched p n → Is p n i
    go (at j q s) = let w : j ≡ i = cc in rw w at s
    go (nowhere q f) = absurd (let z : ◌≡◌ {A = ℕ} 0 1 = cc in omega arith)

pub lowest-none : (p : ℕ → Bool) (n : ℕ) → lowest_found p n ≡ None → (k : ℕ) → k < n → p k ≡ false
lowest-none p n e = go (searched p n)
  where
    go : Searched p n → (k : ℕ) → k < n → p k ≡ false
    go (at j q s) = absurd (let z : ◌≡◌ {A = ℕ} 0 1 = cc in omega arith)
    go (nowhere q f) = f

-- tests that agree search and count alike
pub lowest-same : (p q : ℕ → Bool) (n : ℕ) → ((k : ℕ) → k < n → p k ≡ q k) → lowest_found p n ≡ lowest_found q n
unfolding lowest_found
lowest-same p q zero f = refl
lowest-same p q (suc n) f = rw (f n (omega arith), lowest-same p q n (λ k h. f k (omega arith)))

pub tally-same : (p q : ℕ → Bool) (n : ℕ) → ((k : ℕ) → k < n → p k ≡ q k) → tally p n ≡ tally q n
unfolding tally
tally-same p q zero f = refl
tally-same p q (suc n) f = rw (f n (omega arith), tally-same p q n (λ k h. f k (omega arith)))

-- tests that agree but at i
pub tally_but : (p q : ℕ → Bool) (n i : ℕ) → i < n → ((k : ℕ) → k < n → (k ≡ i → ⊥) → p k ≡ q k)
    → tally p n + bit (q i) ≡ tally q n + bit (p i)
unfolding tally
tally_but p q zero i h f = absurd (omega arith)
tally_but p q (suc n) i h f = go (tally_but p q n i) (ℕ_discrete i n)
  where
    go : (i < n → ((k : ℕ) → k < n → (k ≡ i → ⊥) → p k ≡ q k) → tally p n + bit (q i) ≡ tally q n + bit (p i))
        → Dec (i ≡ n) → bit (p n) + tally p n + bit (q i) ≡ bit (q n) + tally q n + bit (p i)
    go ih (yes e) =
        let s : tally p n ≡ tally q n = tally-same p q n (λ k l. f k (omega arith) (λ w. omega arith)) in
        rw (e, s) (omega arith)
    go ih (no ne) =
        let r : tally p n + bit (q i) ≡ tally q n + bit (p i) = ih (omega arith) (λ k l w. f k (omega arith) w) in
        rw (f n (omega arith) (λ w. ne (sym w))) (omega arith)
