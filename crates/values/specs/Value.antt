-- A value by its own bytes: what kind it is, how a string is spelled, and what its text is (01 Reading; 02 §2). Assumes nothing.
use Prim.Native.Char.{code}
use Rattle.std.specs.Prelude.{ℕ, eqb, ltb, get_or, Bool, not, ◌&&◌, cond, List}
use Rattle.escapes.specs.Rfc7159.{is_broken, text}
use Rattle.json_text.specs.Places.{raw}
use Rattle.rules.specs.Pieces.{word_number}

-- a value's first byte says its kind
unfoldable pub is_string : List ℕ → Bool
is_string v = eqb (get_or v 0 0) (code "\"")

unfoldable pub is_array : List ℕ → Bool
is_array v = eqb (get_or v 0 0) (code "[")

unfoldable pub is_object : List ℕ → Bool
is_object v = eqb (get_or v 0 0) (code "{")

-- how a string is spelled: the raw bytes between the quotes; and the text that they spell
unfoldable pub spelling_of : List ℕ → List ℕ
spelling_of v = raw v 0

unfoldable pub text_of : List ℕ → List ℕ
text_of v = text (spelling_of v)

-- free text: a string of which the rule alone is asked, broken or not
unfoldable pub freely : (List ℕ → Bool) → List ℕ → Bool
freely rule v = is_string v && rule (text_of v)

-- a string under a rule: a lone surrogate breaks it
unfoldable pub ruled : (List ℕ → Bool) → List ℕ → Bool
ruled rule v = is_string v && (not (is_broken (spelling_of v)) && rule (text_of v))

-- one of a few words
unfoldable pub one_of : List (List ℕ) → List ℕ → Bool
one_of ws t = ltb 0 (word_number ws t)

-- the number among the words ws, the first of them 1, of the text that the bytes w spell; 0 for any other text, and for a broken one
unfoldable pub word_spelled : List (List ℕ) → List ℕ → ℕ
word_spelled ws w = cond (is_broken w) 0 (word_number ws (text w))

-- the number among the names ns of the member whose name opens at q, by the text of its name; 0 for an unknown one
unfoldable pub number_at : List (List ℕ) → List ℕ → ℕ → ℕ
number_at ns s q = word_spelled ns (raw s q)
