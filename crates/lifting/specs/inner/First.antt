-- Inner: the first number below n that passes a test, and how many pass. Tied to `table`'s searches by `first-is` and `first-none` in exchange's
-- `proofs/Rules.antt`. Assumes nothing.
use Rattle.std.specs.Prelude.{ℕ, zero, suc, ◌+◌, Bool, true, false, cond}

-- the least k below n that passes p, or n where none does
unfoldable pub first : (ℕ → Bool) → ℕ → ℕ
first p zero = zero
first p (suc n) = cond (p zero) zero (suc (first (λ k. p (suc k)) n))

abbrev pub bit : Bool → ℕ
bit true = 1
bit false = 0

-- how many k below n pass p
unfoldable pub count : (ℕ → Bool) → ℕ → ℕ
count p zero = zero
count p (suc n) = bit (p n) + count p n
