-- What `shape_of` and `gather` hand on of rows 6 and 7: the tag and where the object opens, and the places of its fields. Assumes nothing.
use Rattle.std.specs.Prelude.{ℕ, ◌<◌, length, ltb, cond, List, ◌≡◌, Result, Ok, Err}
use Rattle.fields.specs.Known.{empty, noted, repeated}
use Rattle.json_text.specs.Places.{members}
use Rattle.message.specs.Shape.{object_of, tag_of}
use Rattle.message.specs.declared.refusals.Refusal.TheVariants.{Twice}
use Rattle.message.specs.declared.refusals.Refusal.{Refusal}
use Rattle.rules.specs.Names.{fields}

-- what is found of the shape: the tag, and where the object opens
pub record Shaped (s : List ℕ) (tag object : ℕ) : Type 0 where
  pub is : tag ≡ tag_of s
  pub few : tag < 5
  pub opens : object ≡ object_of s
  pub inside : object < length s

-- the places of the fields of the object that opens at o, or the first repeat
unfoldable pub gathered : List ℕ → ℕ → Result (List ℕ) Refusal
gathered s o =
    cond (ltb 0 (repeated fields s empty (members s o))) (Err (Twice (repeated fields s empty (members s o)))) (Ok (noted fields s empty (members s o)))
