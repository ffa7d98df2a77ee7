-- What a derivation of RFC 7159's grammar holds: the values of an array, and the names and values of an object, in order. Inner: no contract cites it.
-- `array_tie`, `object_tie` and `accepted_tie` in proofs/PlaceTie.antt say that these are what the places of `Places` list. Assumes nothing.
use Rattle.std.specs.Prelude.{cond, ℕ, List, [], ◌∷◌, drop}
use Rattle.octets.specs.Class.{all}
use Rattle.json_text.specs.Places.{spaces, is_ws}
use Rattle.json_text.specs.Rfc7159.{Rule, ◌⨾◌, both, absent, present, Star, none, more, value_separator, member, object, array}

-- the bytes of the values that *( value-separator value ) derives
abbrev pub values_in : {X : Rule} {s : List ℕ} → Star (value_separator ⨾ X) s → List (List ℕ)
values_in none = []
values_in (more (both {t = v} c x) r) = v ∷ values_in r

-- of an array's values
abbrev pub elements_in : {X : Rule} {s : List ℕ} → array X s → List (List ℕ)
elements_in (both b (both absent e)) = []
elements_in (both b (both (present (both {s = v} x r)) e)) = v ∷ values_in r

-- of a member: what stands between its name's quotation marks, and its value
abbrev pub member_in : {X : Rule} {s : List ℕ} → member X s → List ℕ × List ℕ
member_in (both (both q (both {s = n} cs q')) (both {t = v} c x)) = (n, v)

-- of *( value-separator member )
abbrev pub pairs_in : {X : Rule} {s : List ℕ} → Star (value_separator ⨾ member X) s → List (List ℕ × List ℕ)
pairs_in none = []
pairs_in (more (both c m) r) = member_in m ∷ pairs_in r

-- of an object's members
abbrev pub members_in : {X : Rule} {s : List ℕ} → object X s → List (List ℕ × List ℕ)
members_in (both b (both absent e)) = []
members_in (both b (both (present (both m r)) e)) = member_in m ∷ pairs_in r

-- bytes without the white space behind them
unfoldable pub shorn : List ℕ → List ℕ
shorn [] = []
shorn (b ∷ bs) = cond (all is_ws (b ∷ bs)) [] (b ∷ shorn bs)

-- bytes without the white space around them: the RFC counts white space around an array's and an object's brackets to the array and the object
unfoldable pub bare : List ℕ → List ℕ
bare s = shorn (drop (spaces s) s)

-- a member with a bare value
abbrev pub bared : List ℕ × List ℕ → List ℕ × List ℕ
bared p = (p.0, bare p.1)
