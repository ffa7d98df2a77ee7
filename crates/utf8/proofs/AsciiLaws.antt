-- Bytes that are ASCII by the bits that any of them has. Assumes nothing.
use Prim.Native.Nat.{ℕ, zero, suc, ◌≤◌, ◌<◌}
use Rattle.std.proofs.lemmas.Nat.{le_or_l, le_or_r}
use Rattle.std.specs.Int.Bits.{bit_or}
use Rattle.std.specs.List.{fold}
use Rattle.std.specs.Str.{IsAscii}
use lib.ListN.{get_or}
use mathlib.Core.List.{List, [], ◌∷◌}
use native.Mathlib.Omega.{arith}

-- all together are no smaller than what they began with
above : (m : ℕ) (s : List ℕ) → m ≤ fold bit_or m s
above m [] = omega arith
above m (x ∷ s) = omega (arith, le_or_l m x, above (bit_or m x) s)

-- nor than any of them
each : (m : ℕ) (s : List ℕ) (i : ℕ) → get_or s i 0 ≤ fold bit_or m s
each m [] i = omega arith
each m (x ∷ s) zero = omega (arith, le_or_r m x, above (bit_or m x) s)
each m (x ∷ s) (suc i) = each (bit_or m x) s i

pub ascii_run : (s : List ℕ) → fold bit_or 0 s < 0x80 → IsAscii s
ascii_run s h i = omega (arith, each 0 s i)
