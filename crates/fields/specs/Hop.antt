-- An object of Via: the places of its three members' values as a list by number; and by its own bytes v where the values of its host and of its
-- destination stand, and how they are spelled (01 Reading, 'Rules'; 01 Writing). The contracts of `src/hops.rt` and, above, of `writing` cite
-- them. Assumes nothing.
use Rattle.std.specs.Prelude.{ℕ, eqb, get_or, cond, List}
use Rattle.json_text.specs.Places.{members}
use Rattle.fields.specs.Known.{empty, repeated}
use Rattle.values.specs.Spans.{spelling_at}
use Rattle.fields.specs.Via.{hop_places}
use Rattle.fields.specs.declared.hops.Hop.{Hop}
use Rattle.rules.specs.Names.{hop_members}

-- where the two values stand; 0 for one that is missing, and for both where one of the three members stands twice
unfoldable pub hop_of : List ℕ → Hop
hop_of v =
    cond (eqb (repeated hop_members v empty (members v 0)) 0) (record { host = get_or (hop_places v 0) 1 0; destination = get_or (hop_places v 0) 2 0 })
    (record { host = 0; destination = 0 })

-- its host, and its destination, as they stand; every object of an accepted message has both
unfoldable pub host_of : List ℕ → List ℕ
host_of v = spelling_at v (hop_of v).host

unfoldable pub destination_of : List ℕ → List ℕ
destination_of v = spelling_at v (hop_of v).destination
