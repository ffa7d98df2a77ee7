-- Bytes as lower-case hex, two digits each: what the contracts of `src/lib.rt` cite. Assumes nothing.
use Prim.Native.Char.{code}
use Rattle.std.specs.Prelude.{ℕ, ◌+◌, ◌-◌, ◌*◌, ◌/◌, ◌%◌, eqb, ltb, length, Bool, ◌&&◌, ◌||◌, cond, List, [], ◌∷◌}
use Rattle.octets.specs.Class.{all, among}

-- the digit of a number below 16
unfoldable pub digit_of : ℕ → ℕ
digit_of n = cond (ltb n 10) (code "0" + n) (code "a" - 10 + n)

-- 0 to 9 and a to f
unfoldable pub is_lower_hex : ℕ → Bool
is_lower_hex b = among (code "0") (code "9") b || among (code "a") (code "f") b

-- what a digit stands for; 0 for any other byte
unfoldable pub worth_of : ℕ → ℕ
worth_of b = cond (among (code "0") (code "9") b) (b - code "0") (cond (among (code "a") (code "f") b) (b - (code "a" - 10)) 0)

-- digits alone, two for each byte
unfoldable pub is_hex : List ℕ → Bool
is_hex s = eqb (length s % 2) 0 && all is_lower_hex s

-- the bytes that pairs of digits stand for
unfoldable pub decoded : List ℕ → List ℕ
decoded [] = []
decoded (a ∷ []) = []
decoded (a ∷ (b ∷ s)) = (worth_of a * 16 + worth_of b) ∷ decoded s

-- the digits of bytes
unfoldable pub encoded : List ℕ → List ℕ
encoded [] = []
encoded (b ∷ s) = digit_of (b / 16) ∷ (digit_of (b % 16) ∷ encoded s)
