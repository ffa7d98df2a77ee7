-- What a walk over an object's members finds: the first values and where they end, and the lowest repeat. The fields of `Gathered` are equations with Members.antt
-- and fix what is found, but for the ends: one is where its value ends, or 0. Assumes nothing.
use Rattle.json_text.specs.Places.{behind, members}
use Rattle.particulars.specs.Lowest.{lowest}
use Rattle.particulars.specs.Members.{repeats, values_of}
use Rattle.particulars.specs.Types.{names_of}
use Rattle.particulars.specs.declared.types.Kind.{Kind}
use Rattle.std.specs.Prelude.{ℕ, ◌<◌, ltb, get_or, Bool, List, [], Option, ◌≡◌}

-- e has the ends of the values of which t has the places
pub record Ended (s t e : List ℕ) : Type 0 where
  pub ends : (n : ℕ) → 0 < get_or e n 0 → get_or e n 0 ≡ behind s (get_or t n 0)

-- a value is noted under number k
unfoldable pub is_noted : List ℕ → ℕ → Bool
is_noted t k = ltb 0 (get_or t k 0)

-- what is found of the object of type t that opens at o
pub record Gathered (t : Kind) (s : List ℕ) (o : ℕ) (again : Option ℕ) (at end : List ℕ) : Type 0 where
  pub lowest-repeat : again ≡ lowest (repeats (names_of t) s [] (members s o))
  pub places : at ≡ values_of t s o
  pub ended : Ended s at end
