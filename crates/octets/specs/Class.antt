-- Classes of bytes, and texts of digits alone: what the contracts of `src/classes.rt` cite. Assumes nothing.
use Prim.Native.Char.{code}
use Rattle.std.specs.Prelude.{ℕ, Bool, true, ◌&&◌, ◌||◌, List, [], ◌∷◌, leb, length}

-- from lo to hi, both included
unfoldable pub among : ℕ → ℕ → ℕ → Bool
among lo hi b = leb lo b && leb b hi

-- 0 to 9
unfoldable pub is_digit : ℕ → Bool
is_digit b = among (code "0") (code "9") b

-- a to z
unfoldable pub is_lower : ℕ → Bool
is_lower b = among (code "a") (code "z") b

-- A to Z
unfoldable pub is_upper : ℕ → Bool
is_upper b = among (code "A") (code "Z") b

-- an ASCII letter
unfoldable pub is_letter : ℕ → Bool
is_letter b = is_lower b || is_upper b

-- an ASCII letter or a digit
unfoldable pub is_alnum : ℕ → Bool
is_alnum b = is_digit b || is_letter b

-- every byte of a text is of a class
unfoldable pub all : (ℕ → Bool) → List ℕ → Bool
all f [] = true
all f (x ∷ xs) = f x && all f xs

-- lo to hi digits, and nothing else
unfoldable pub digits_rule : ℕ → ℕ → List ℕ → Bool
digits_rule lo hi s = among lo hi (length s) && all is_digit s
