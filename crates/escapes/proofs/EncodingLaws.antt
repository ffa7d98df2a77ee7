-- The rows of RFC 3629's table, and how many octets they have. Assumes nothing.
use Prim.Native.Nat.{ℕ, ◌+◌, ◌/◌, ◌≤◌, ◌<◌}
use Rattle.escapes.specs.Encoding.{encoded, low}
use borrow.Author.Tests.{lt-ltb, le-ltb}
use lib.ListN.{length}
use mathlib.Core.List.{[], ◌∷◌}
use mathlib.Core.Path.{◌≡◌, ap}
use native.Mathlib.Decide.{dec_lt}
use native.Mathlib.Omega.{arith}

module _ (c : ℕ) where
  pub one : c < 0x80 → encoded c ≡ c ∷ []
  unfolding encoded
  one h = simp (lt-ltb c 0x80 h)

  pub two : 0x80 ≤ c → c < 0x800 → encoded c ≡ (0xC0 + c / 64) ∷ low c ∷ []
  unfolding encoded
  two h k = simp (le-ltb c 0x80 h, lt-ltb c 0x800 k)

  pub three : 0x800 ≤ c → c < 0x10000 → encoded c ≡ (0xE0 + c / 4096) ∷ low (c / 64) ∷ low c ∷ []
  unfolding encoded
  three h k = simp (le-ltb c 0x80 (omega arith), le-ltb c 0x800 h, lt-ltb c 0x10000 k)

  pub four : 0x10000 ≤ c → encoded c ≡ (0xF0 + c / 262144) ∷ low (c / 4096) ∷ low (c / 64) ∷ low c ∷ []
  unfolding encoded
  four h = simp (le-ltb c 0x80 (omega arith), le-ltb c 0x800 (omega arith), le-ltb c 0x10000 h)

  -- the row that a number is in
  pub data Row : Type 0 where
    row_one : c < 0x80 → Row
    row-two : 0x80 ≤ c → c < 0x800 → Row
    row-three : 0x800 ≤ c → c < 0x10000 → Row
    row-four : 0x10000 ≤ c → Row

  pub row : Row
  row = go (dec_lt c 0x80) (dec_lt c 0x800) (dec_lt c 0x10000)
    where
      go : Dec (c < 0x80) → Dec (c < 0x800) → Dec (c < 0x10000) → Row
      go (yes a) _ _ = row_one a
      go (no a) (yes b) _ = row-two (omega arith) b
      go (no a) (no b) (yes d) = row-three (omega arith) d
      go (no a) (no b) (no d) = row-four (omega arith)

  pub length-one : c < 0x80 → length (encoded c) ≡ 1
  length-one h = ap length (one h)

  pub length_two : 0x80 ≤ c → c < 0x800 → length (encoded c) ≡ 2
  length_two h k = ap length (two h k)

  pub length_three : 0x800 ≤ c → c < 0x10000 → length (encoded c) ≡ 3
  length_three h k = ap length (three h k)

  pub length-four : 0x10000 ≤ c → length (encoded c) ≡ 4
  length-four h = ap length (four h)

  -- one to four octets, and below 10000 hex three at most
  sizes : (1 ≤ length (encoded c)) × ((length (encoded c) ≤ 4) × (c < 0x10000 → length (encoded c) ≤ 3))
  sizes = go row
    where
      go : Row → (1 ≤ length (encoded c)) × ((length (encoded c) ≤ 4) × (c < 0x10000 → length (encoded c) ≤ 3))
      go (row_one h) = rw (length-one h) (omega arith, (omega arith, λ l. omega arith))
      go (row-two h k) = rw (length_two h k) (omega arith, (omega arith, λ l. omega arith))
      go (row-three h k) = rw (length_three h k) (omega arith, (omega arith, λ l. omega arith))
      go (row-four h) = rw (length-four h) (omega arith, (omega arith, λ l. absurd (omega arith)))

  pub at_least_one : 1 ≤ length (encoded c)
  at_least_one = sizes.0

  pub at-most-four : length (encoded c) ≤ 4
  at-most-four = sizes.1.0

  pub at-most-three : c < 0x10000 → length (encoded c) ≤ 3
  at-most-three = sizes.1.1
