-- The faults of a value (02 §4), read from the tables of Types.antt: all of them are there at once, each as its place, and the lowest answers. What stands behind a
-- fault that answers anyway is left out: a repeat's own value, and the elements of an array that is too long. Places are within the text s, the own bytes of the
-- field's value. How to read it: from `faults` upwards. Assumes nothing.
use Prim.Native.Char.{code}
use Rattle.json_text.specs.Places.{bytes, elements, members}
use Rattle.octets.specs.Class.{all}
use Rattle.particulars.specs.Leaves.{is_blank, keeps, preset, provider_of}
use Rattle.particulars.specs.Members.{repeats, values_of}
use Rattle.particulars.specs.Types.{Row, names_of, rows_of}
use Rattle.particulars.specs.declared.types.Call.{Call}
use Rattle.particulars.specs.declared.types.Kind.TheVariants.{CallerLocation, CallerInformation, PersonalInformation, HomeLocation, EmergencyContact, RegionInformation}
use Rattle.particulars.specs.declared.types.Kind.TheVariants.{LiveLocation}
use Rattle.particulars.specs.declared.types.Kind.{Kind}
use Rattle.particulars.specs.declared.types.Need.TheVariants.{Required, Optional, OfPreset, OneSet}
use Rattle.particulars.specs.declared.types.Need.{Need}
use Rattle.particulars.specs.declared.types.Rule.TheVariants.{Value, Object, Objects}
use Rattle.particulars.specs.declared.types.Rule.{Rule}
use Rattle.std.specs.Prelude.{ℕ, zero, suc, ◌+◌, eqb, leb, ltb, get_or, length, Bool, true, false, not, ◌&&◌, cond, List, [], ◌∷◌, ◌++◌}

-- the faults of an object that stands inside, by its type and its place
abbrev pub Inner : Type 0
Inner = Kind → ℕ → List ℕ

-- a fault at p, if something is wrong
abbrev pub fault_if : Bool → ℕ → List ℕ
fault_if wrong p = cond wrong (p ∷ []) []

-- what f says of each of these places
unfoldable pub each : (ℕ → List ℕ) → List ℕ → List ℕ
each f [] = []
each f (p ∷ ps) = f p ++ each f ps

-- the value at p, which has to be an array of at most n objects whose faults are f's; where it is none, or too long, that is a fault at its first byte, which lies
-- before all that stands inside
unfoldable pub array_faults : (ℕ → List ℕ) → ℕ → List ℕ → ℕ → List ℕ
array_faults f n s p =
    cond (eqb (get_or s p 0) (code "[") && leb (length (elements s p)) n) (each f (elements s p)) (p ∷ [])

-- the value at p under a rule, in an object whose provider has the number w: one that breaks its rule is a fault at its first byte
unfoldable pub rule_faults : Inner → Call → ℕ → List ℕ → ℕ → Rule → List ℕ
rule_faults f call w s p (Value l) = fault_if (not (keeps w l (bytes s p))) p
rule_faults f call w s p (Object t) = f t p
rule_faults f call w s p (Objects n t) = array_faults (f t) (cond call.contacts n 0) s p

-- whether a member must be there
unfoldable pub is_needed : ℕ → Need → Bool
is_needed w Required = true
is_needed w Optional = false
is_needed w OfPreset = eqb w preset
is_needed w OneSet = false

-- the member of a row, in the object that opens at o: its value stands at p, and is missing where p is 0
unfoldable pub row_faults : Inner → Call → ℕ → List ℕ → ℕ → ℕ → Row → List ℕ
row_faults f call w s o p e =
    cond (eqb p 0) (fault_if (is_needed w e.need) o)
    (cond (e.eased && (call.training && is_blank (bytes s p))) []
    (rule_faults f call w s p e.rule))

-- the members of these rows, of which the first has number k, by the places of their values
unfoldable pub rows_faults : Inner → Call → ℕ → List ℕ → ℕ → List ℕ → ℕ → List Row → List ℕ
rows_faults f call w s o at k [] = []
rows_faults f call w s o at k (e ∷ es) = row_faults f call w s o (get_or at k 0) e ++ rows_faults f call w s o at (k + 1) es

-- whether a member is one of those of which one must be set
unfoldable pub is_choice : Need → Bool
is_choice Required = false
is_choice Optional = false
is_choice OfPreset = false
is_choice OneSet = true

-- where the values of those members stand, among these rows
unfoldable pub choices : List ℕ → ℕ → List Row → List ℕ
choices at k [] = []
choices at k (e ∷ es) = cond (is_choice e.need) (get_or at k 0 ∷ []) [] ++ choices at (k + 1) es

-- a member is unset: it is missing, or the empty string
unfoldable pub is_unset : List ℕ → ℕ → Bool
is_unset s p = cond (eqb p 0) true (is_blank (bytes s p))

-- there are such members, and all are unset
unfoldable pub none_set : List ℕ → List ℕ → Bool
none_set s ps = ltb 0 (length ps) && all (is_unset s) ps

-- the number of the provider whose value stands at p; 0 where there is none
unfoldable pub provider_under : List ℕ → ℕ → ℕ
provider_under s p = cond (eqb p 0) 0 (provider_of (bytes s p))

-- the number of `provider` among a location's names
abbrev pub provider_name : ℕ
provider_name = 2

-- the number of a location's provider; in an object of any other type nothing depends on one
unfoldable pub provider_in : Kind → List ℕ → List ℕ → ℕ
provider_in CallerLocation s at = provider_under s (get_or at provider_name 0)
provider_in CallerInformation s at = 0
provider_in PersonalInformation s at = 0
provider_in HomeLocation s at = 0
provider_in EmergencyContact s at = 0
provider_in RegionInformation s at = 0
provider_in LiveLocation s at = 0

-- the object of a type that opens at o, by the first values of its members: what is repeated, what is unset, and each member
unfoldable pub members_faults : Inner → Call → Kind → List ℕ → ℕ → List ℕ → List ℕ
members_faults f call t s o at =
    repeats (names_of t) s [] (members s o)
    ++ (fault_if (none_set s (choices at 1 (rows_of t))) o
    ++ rows_faults f call (provider_in t s at) s o at 1 (rows_of t))

-- the value at o, which has to be an object of a type
unfoldable pub object_faults : Inner → Call → Kind → List ℕ → ℕ → List ℕ
object_faults f call t s o = cond (eqb (get_or s o 0) (code "{")) (members_faults f call t s o (values_of t s o)) (o ∷ [])

-- the same, of objects n levels deep, itself the first: Caller-Information has three, with Personal-Information and Home-Location, a location one
unfoldable pub faults : ℕ → Call → Kind → List ℕ → ℕ → List ℕ
faults zero call t s o = []
faults (suc n) call t s o = object_faults (λ u p. faults n call u s p) call t s o
