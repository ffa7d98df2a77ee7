-- What one walk over a text of the usual shape, an array of a tag and an object that is not empty, finds at once: that it is JSON with no more values than
-- the ceiling (rows 4, 5 and 11), its tag (row 6), and the places and ends of its known fields, none of them twice (row 7). `usual-read` of proofs/WalkLaws.antt
-- ties it to Reading.antt. Assumes nothing.
use Rattle.message.specs.inner.Shaping.{Shaped}
use Rattle.fields.specs.inner.Gathering.{ends_of}
use Rattle.std.specs.Prelude.{ℕ, suc, eqb, leb, ltb, length, get_or, Bool, true, ◌&&◌, List, ◌≡◌, Ok}
use Rattle.json_text.specs.inner.Machine.{arr, text, value}
use Rattle.json_text.specs.inner.Passing.{is_end}
use Rattle.json_text.specs.inner.Tour.{lone, room_in, tour}
use Rattle.json_text.specs.Places.{follows, members}
use Rattle.fields.specs.Known.{empty, noted, repeated}
use Rattle.message.specs.Shape.{tag_of, object_of}
use Rattle.rules.specs.Names.{fields}

-- there are members, and no known name stands twice among them
unfoldable pub is_once : List ℕ → List ℕ → Bool
is_once s qs = ltb 0 (length qs) && eqb (repeated fields s empty qs) 0

-- the text has the usual shape, under a ceiling of c: the array, its tag and its object are three values
unfoldable pub is_usual : ℕ → List ℕ → Bool
is_usual c s = leb 3 c && (is_end (tour s 0 value (text 8) c) && (ltb 0 (tag_of s) && is_once s (members s (object_of s))))

-- the places of its known fields
unfoldable pub field_places : List ℕ → List ℕ
field_places s = noted fields s empty (members s (object_of s))

-- what is found of a text of the usual shape: its tag, the room left, and the places and ends of its known fields
pub record Usual (c : ℕ) (s : List ℕ) (tag room : ℕ) (t es : List ℕ) : Type 0 where
  pub is : is_usual c s ≡ true
  pub tagged : tag ≡ tag_of s
  pub spare : room ≡ room_in (tour s 0 value (text 8) c)
  pub places : t ≡ field_places s
  pub ends : es ≡ ends_of s t

-- the text begins with an array whose first element is a tag, and its second opens as an object at o
pub record Begun (s : List ℕ) (tag o : ℕ) : Type 0 where
  pub json : (n : ℕ) → tour s 0 value (text 8) (suc (suc n)) ≡ tour s o value (arr (text 8)) n
  pub brace : get_or s o 0 ≡ 123
  -- an array of two if no comma follows, and of more if one does
  pub two : (get_or s (follows s o) 0 ≡ 44 → ⊥) → Shaped s tag o
  pub three : get_or s (follows s o) 0 ≡ 44 → 0 ≡ tag_of s

-- the object that opens at o, with seven levels left and room for n values inside, passes, and its known members, each once, are listed
unfoldable pub is_listed : List ℕ → ℕ → ℕ → Bool
is_listed s o n = is_end (lone 7 (suc n) s o) && is_once s (members s o)

-- where it ends, the room left, and the places and ends of its known members
pub record Listed (s : List ℕ) (o n e room : ℕ) (t es : List ℕ) : Type 0 where
  pub json : lone 7 (suc n) s o ≡ Ok (e, room)
  pub once : is_once s (members s o) ≡ true
  pub places : t ≡ noted fields s empty (members s o)
  pub ends : es ≡ ends_of s t
