-- Writing into a lent buffer: what the contract of `src/copying.rt` cites. Assumes nothing.
use Rattle.std.specs.Prelude.{ℕ, ◌+◌, List, ◌++◌, length, take, drop}

-- o with p in the place of its bytes from at on
unfoldable pub splice : List ℕ → ℕ → List ℕ → List ℕ
splice o at p = take at o ++ (p ++ drop (at + length p) o)

-- o with w in the place of its first bytes
unfoldable pub written : List ℕ → List ℕ → List ℕ
written o w = w ++ drop (length w) o
