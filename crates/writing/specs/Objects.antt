-- The objects of Via, each by its own bytes, and whether one is ours (01 Writing). The contracts of `src/objects.rt` cite `objects`, `is_ours` and
-- `some`. Assumes nothing.
use Rattle.std.specs.Prelude.{ℕ, Bool, false, ◌&&◌, ◌||◌, List, [], ◌∷◌, map}
use Rattle.json_text.specs.Places.{bytes, elements}
use Rattle.fields.specs.Hop.{host_of, destination_of}
use Rattle.escapes.specs.Rfc7159.{spells}

-- the objects of the Via that opens at v
abbrev pub objects : List ℕ → ℕ → List (List ℕ)
objects s v = map (bytes s) (elements s v)

-- the object x has this host and this destination: its own are compared by their texts (02 §2)
unfoldable pub is_ours : List ℕ → List ℕ → List ℕ → Bool
is_ours host destination x = spells (host_of x) host && spells (destination_of x) destination

-- f is true of one of these
unfoldable pub some : (List ℕ → Bool) → List (List ℕ) → Bool
some f [] = false
some f (x ∷ xs) = f x || some f xs
