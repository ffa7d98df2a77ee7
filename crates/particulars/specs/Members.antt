-- What of an object's members its type goes by (02 §4): under each name the first value, and the repeats. ns are the names, numbered from 1; a name is known by its
-- text, and any other has the number 0. Assumes nothing.
use Rattle.json_text.specs.Places.{members, value_of}
use Rattle.particulars.specs.Types.{names_of}
use Rattle.particulars.specs.declared.types.Kind.{Kind}
use Rattle.std.specs.Prelude.{ℕ, eqb, ltb, Bool, false, ◌&&◌, ◌||◌, cond, List, [], ◌∷◌, ◌++◌, map}
use Rattle.values.specs.Value.{number_at}

-- where the first value under name k stands, among these members; 0 where there is none
unfoldable pub first_under : List (List ℕ) → List ℕ → ℕ → List ℕ → ℕ
first_under ns s k [] = 0
first_under ns s k (q ∷ qs) = cond (eqb (number_at ns s q) k) (value_of s q) (first_under ns s k qs)

-- the first values in the object of type t that opens at o, by their names' numbers; no type has more than eight names
unfoldable pub values_of : Kind → List ℕ → ℕ → List ℕ
values_of t s o = map (λ k. first_under (names_of t) s k (members s o)) (0 ∷ 1 ∷ 2 ∷ 3 ∷ 4 ∷ 5 ∷ 6 ∷ 7 ∷ 8 ∷ [])

-- whether k is one of these numbers
unfoldable pub is_among : List ℕ → ℕ → Bool
is_among [] k = false
is_among (x ∷ xs) k = eqb x k || is_among xs k

-- the opening quotes of the repeats among these members, before which names of the numbers ks stand
unfoldable pub repeats : List (List ℕ) → List ℕ → List ℕ → List ℕ → List ℕ
repeats ns s ks [] = []
repeats ns s ks (q ∷ qs) =
    cond (ltb 0 (number_at ns s q) && is_among ks (number_at ns s q)) (q ∷ []) [] ++ repeats ns s (number_at ns s q ∷ ks) qs
