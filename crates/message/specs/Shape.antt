-- 01 Reading, row 6: an array of two, a tag and then an object. Assumes nothing.
use Prim.Native.Char.{code}
use Rattle.std.specs.Prelude.{ℕ, eqb, get_or, ◌&&◌, cond, List, [], ◌∷◌}
use Rattle.values.specs.Value.{word_spelled}
use Rattle.json_text.specs.Places.{past, raw, elements}
use Rattle.rules.specs.Names.{tags}

-- what f says of a list of exactly two; 0 of any other
abbrev pub pair : List ℕ → (ℕ → ℕ → ℕ) → ℕ
pair [] f = 0
pair (x ∷ []) f = 0
pair (x ∷ y ∷ []) f = f x y
pair (x ∷ y ∷ z ∷ zs) f = 0

-- the number of the tag at x, by its text, where an object opens at y
unfoldable pub tag_at : List ℕ → ℕ → ℕ → ℕ
tag_at s x y = cond (eqb (get_or s x 0) (code "\"") && eqb (get_or s y 0) (code "{")) (word_spelled tags (raw s x)) 0

-- the message's tag: 1 request, 2 response, 3 ping, 4 pong; 0 where the text has not this shape
unfoldable pub tag_of : List ℕ → ℕ
tag_of s = cond (eqb (get_or s (past s 0) 0) (code "[")) (pair (elements s (past s 0)) (tag_at s)) 0

-- where its object opens
unfoldable pub object_of : List ℕ → ℕ
object_of s = pair (elements s (past s 0)) (λ x y. y)
