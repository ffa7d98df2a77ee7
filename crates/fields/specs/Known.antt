-- Which members of an object are known, and what stands under them (01 Reading, rows 7 and 8). It serves the message's own object, with the 26
-- fields, and an object of Via, with its three members: ns are the known names, numbered from 1. Assumes nothing.
use Rattle.std.specs.Prelude.{ℕ, eqb, ltb, get_or, set, replicate, Bool, ◌&&◌, cond, List, [], ◌∷◌}
use Rattle.json_text.specs.Places.{value_of}
use Rattle.values.specs.Value.{number_at}

-- the places of values by number, 0 where there is none
abbrev pub empty : List ℕ
empty = replicate 27 0

-- the member at q has a known name, and t already holds a place for it
unfoldable pub has : List (List ℕ) → List ℕ → List ℕ → ℕ → Bool
has ns s t q = ltb 0 (number_at ns s q) && ltb 0 (get_or t (number_at ns s q) 0)

-- t with the value of the member at q
unfoldable pub note : List (List ℕ) → List ℕ → List ℕ → ℕ → List ℕ
note ns s t q = cond (eqb (number_at ns s q) 0) t (set t (number_at ns s q) (value_of s q))

-- t with the values of these members
unfoldable pub noted : List (List ℕ) → List ℕ → List ℕ → List ℕ → List ℕ
noted ns s t [] = t
noted ns s t (q ∷ qs) = noted ns s (note ns s t q) qs

-- the opening quote of the first repeat among these members; 0 if there is none
unfoldable pub repeated : List (List ℕ) → List ℕ → List ℕ → List ℕ → ℕ
repeated ns s t [] = 0
repeated ns s t (q ∷ qs) = cond (has ns s t q) q (repeated ns s (note ns s t q) qs)
