-- The fields that steps 8 and 9 look at (01 Reading, 'Required'): what the contracts of `src/asks.rt` cite. Assumes nothing.
use Rattle.std.specs.Prelude.{ℕ, Bool, ◌||◌, false, cond, List, ◌∷◌, [], eqb, get_or}
use Rattle.rules.specs.Numbers.{optional, required, unlisted}

-- the fields required by each tag, from request at 1: response, ping, pong
abbrev pub tag_fields : List (List ℕ)
tag_fields =
    []
    ∷ (1 ∷ 2 ∷ 3 ∷ 4 ∷ 5 ∷ 6 ∷ [])
    ∷ (1 ∷ 2 ∷ 3 ∷ 4 ∷ 5 ∷ 6 ∷ 7 ∷ [])
    ∷ (4 ∷ 6 ∷ 25 ∷ [])
    ∷ (4 ∷ 6 ∷ 7 ∷ 26 ∷ [])
    ∷ []

-- the fields required by each method of a request, from INVITE at 1: MESSAGE 5, REFER 7, NOTIFY 8
abbrev pub method_fields : List (List ℕ)
method_fields =
    []
    ∷ (14 ∷ 15 ∷ 16 ∷ 17 ∷ 18 ∷ 19 ∷ 20 ∷ 21 ∷ 22 ∷ 23 ∷ [])
    ∷ []
    ∷ []
    ∷ []
    ∷ (8 ∷ 9 ∷ 10 ∷ [])
    ∷ []
    ∷ (11 ∷ 12 ∷ [])
    ∷ (9 ∷ 10 ∷ [])
    ∷ []

-- the fields optional in each method, by the same codes
abbrev pub method_options : List (List ℕ)
method_options =
    []
    ∷ (12 ∷ 13 ∷ [])
    ∷ []
    ∷ []
    ∷ []
    ∷ (24 ∷ [])
    ∷ []
    ∷ (13 ∷ [])
    ∷ []
    ∷ []

-- whether a number is in a list
unfoldable pub is_in : List ℕ → ℕ → Bool
is_in [] n = false
is_in (x ∷ xs) n = eqb n x || is_in xs n

-- whether a tag requires field n
unfoldable pub tag_asks : ℕ → ℕ → ℕ
tag_asks tag n = cond (is_in (get_or tag_fields tag []) n) required unlisted

-- whether a method requires field n, or has it as optional
unfoldable pub method_asks : ℕ → ℕ → ℕ
method_asks m n = cond (is_in (get_or method_fields m []) n) required (cond (is_in (get_or method_options m []) n) optional unlisted)
