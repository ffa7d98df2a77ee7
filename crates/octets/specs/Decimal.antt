-- Decimal numbers: what the contracts of `src/decimals.rt` cite. Assumes nothing.
use Prim.Native.Char.{code}
use Rattle.std.specs.Prelude.{ℕ, zero, suc, ◌+◌, ◌-◌, ◌*◌, ◌/◌, ◌%◌, Bool, ◌&&◌, cond, List, [], ◌∷◌, ◌++◌, leb, ltb, length, Option, Some, None}
use Rattle.octets.specs.Class.{is_digit, all}

-- the number that the digits are, behind the higher part a
unfoldable pub tens : ℕ → List ℕ → ℕ
tens a [] = a
tens a (x ∷ xs) = tens (a * 10 + (x - code "0")) xs

-- the number that the digits are
abbrev pub decimal_of : List ℕ → ℕ
decimal_of s = tens 0 s

-- 1 to 20 digits, and nothing else, that are a number of 64 bits
unfoldable pub is_decimal : List ℕ → Bool
is_decimal s = leb 1 (length s) && (leb (length s) 20 && (all is_digit s && ltb (decimal_of s) 18446744073709551616))

-- what a text of digits says: leading zeros are allowed
unfoldable pub decimal_in : List ℕ → Option ℕ
decimal_in s = cond (is_decimal s) (Some (decimal_of s)) None

-- the digits of v without leading zeros, if it has at most n of them
unfoldable pub shown_in : ℕ → ℕ → List ℕ
shown_in zero v = []
shown_in (suc n) v = cond (ltb v 10) ((code "0" + v) ∷ []) (shown_in n (v / 10) ++ ((code "0" + v % 10) ∷ []))

-- a number of 64 bits as decimal digits: 20 are enough
unfoldable pub shown : ℕ → List ℕ
shown v = shown_in 20 v
