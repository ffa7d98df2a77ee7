-- Where the known fields of an accepted message stand (01 Reading, row 7): of each the place of its value, by number, 0 where it has none. Assumes nothing.
use Rattle.std.specs.Prelude.{List, ℕ}
use Rattle.fields.specs.Known.{empty, noted}
use Rattle.json_text.specs.Places.{members}
use Rattle.message.specs.Shape.{object_of}
use Rattle.rules.specs.Names.{fields}

unfoldable pub places_of : List ℕ → List ℕ
places_of s = noted fields s empty (members s (object_of s))
