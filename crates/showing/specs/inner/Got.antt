-- Inner: how the bytes that a word stands for get into a lent buffer. Cited by the contract of `take_bytes` and by those of `src/writers.rt`. Tied to
-- the outer definitions by those of `ask`, which speak of the bytes alone. Assumes nothing.
use Rattle.std.specs.Prelude.{ℕ, ◌+◌, length, Bool, true, false, List, ◌≡◌, None, Option, Some}
use Rattle.octets.specs.Splice.{splice}

-- if a test is met, the bytes w are put into b from a place on, and r is the place behind them; else b stays, and r is none
pub record Got (test : Bool) (b : List ℕ) (at : ℕ) (w : List ℕ) (r : Option ℕ) (b' : List ℕ) : Type 0 where
  pub good : test ≡ true → (r ≡ Some (at + length w)) × (b' ≡ splice b at w)
  pub bad : test ≡ false → (r ≡ None) × (b' ≡ b)
