-- The rule of Via (01 Reading, 'Rules'), on the bytes of its value. Assumes nothing.
use Prim.Native.Char.{code}
use Rattle.std.specs.Prelude.{ℕ, eqb, ltb, length, get_or, Bool, ◌&&◌, cond, List}
use Rattle.json_text.specs.Places.{bytes, members, elements}
use Rattle.fields.specs.Known.{empty, noted, repeated}
use Rattle.values.specs.Value.{is_array, ruled}
use Rattle.octets.specs.Class.{among, all}
use Rattle.rules.specs.Names.{hop_members}
use Rattle.rules.specs.Texts.{host_rule, destination_rule, organization_rule}

-- the places of the values of host, destination and organization in the object that opens at o
unfoldable pub hop_places : List ℕ → ℕ → List ℕ
hop_places v o = noted hop_members v empty (members v o)

-- the rule of member n: 1 host, 2 destination, 3 organization
unfoldable pub hop_rule : ℕ → List ℕ → Bool
hop_rule n t = cond (eqb n 1) (host_rule t) (cond (eqb n 2) (destination_rule t) (organization_rule t))

-- p is not 0, so there is such a member, and the value there keeps the rule of member n
unfoldable pub hop_keeps : List ℕ → ℕ → ℕ → Bool
hop_keeps v p n = ltb 0 p && ruled (hop_rule n) (bytes v p)

-- an object with host, destination and organization once each, within their rules; other members are ignored
unfoldable pub is_hop : List ℕ → ℕ → Bool
is_hop v o =
    eqb (get_or v o 0) (code "{")
    && (eqb (repeated hop_members v empty (members v o)) 0
    && (hop_keeps v (get_or (hop_places v o) 1 0) 1
    && (hop_keeps v (get_or (hop_places v o) 2 0) 2 && hop_keeps v (get_or (hop_places v o) 3 0) 3)))

-- 1 to 16 objects (house)
unfoldable pub via_rule : List ℕ → Bool
via_rule v = is_array v && (among 1 16 (length (elements v 0)) && all (is_hop v) (elements v 0))
