-- Big-endian numbers of any width: what the contracts of `src/numbers.rt` cite. Assumes nothing.
use Rattle.std.specs.Prelude.{ℕ, zero, suc, ◌+◌, ◌*◌, ◌/◌, ◌%◌, List, [], ◌∷◌, ◌++◌}

-- the last n bytes of v, the highest first
unfoldable pub bytes_of : ℕ → ℕ → List ℕ
bytes_of zero v = []
bytes_of (suc n) v = bytes_of n (v / 256) ++ (v % 256 ∷ [])

-- the number that the bytes are, behind the higher part a
unfoldable pub onto : ℕ → List ℕ → ℕ
onto a [] = a
onto a (x ∷ xs) = onto (a * 256 + x) xs

-- the number that the bytes are, the highest first
abbrev pub big_endian : List ℕ → ℕ
big_endian s = onto 0 s
