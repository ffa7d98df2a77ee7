-- The types of TS-1022 section 10 as tables, each member in the order in which it stands there: its name, whether it must be there, and what its value has to be.
-- To be laid beside that section, as 02 §4 reads it: kana is optional in 10.5 too, required texts are not empty, and a telephone has at most 15 digits.
-- What the contract of `src/types.rt` cites, and what Faults.antt reads. Assumes nothing.
use Prim.Native.String.{String}
use Rattle.octets.specs.Ascii.{ascii}
use Rattle.particulars.specs.declared.types.Entry.{Entry}
use Rattle.particulars.specs.declared.types.Kind.TheVariants.{CallerLocation, CallerInformation, PersonalInformation, HomeLocation, EmergencyContact, RegionInformation}
use Rattle.particulars.specs.declared.types.Kind.TheVariants.{LiveLocation}
use Rattle.particulars.specs.declared.types.Kind.{Kind}
use Rattle.particulars.specs.declared.types.Leaf.TheVariants.{Provider, LiveProvider, Sex, Text, Name, Filled, Telephone, Coordinate, Metres, Accuracy, Date, Day, FireId, UserId}
use Rattle.particulars.specs.declared.types.Need.TheVariants.{Required, Optional, OfPreset, OneSet}
use Rattle.particulars.specs.declared.types.Need.{Need}
use Rattle.particulars.specs.declared.types.Rule.TheVariants.{Value, Object, Objects}
use Rattle.particulars.specs.declared.types.Rule.{Rule}
use Rattle.std.specs.Prelude.{ℕ, Bool, true, false, List, [], ◌∷◌, map}

-- A member of a type. `src/types.rt` says what a need and a rule are.
pub record Row : Type 0 where
  pub name : List ℕ
  pub need : Need
  pub eased : Bool
  pub rule : Rule

abbrev pub row : String → Need → Rule → Row
row n x r = record { name = ascii n; need = x; eased = false; rule = r }

-- required (必須)
abbrev pub required : String → Rule → Row
required n r = row n Required r

-- optional (任意)
abbrev pub optional : String → Rule → Row
optional n r = row n Optional r

-- optional, but required of a location whose provider is `preset`
abbrev pub of_preset : String → Rule → Row
of_preset n r = row n OfPreset r

-- of all members of the object that are marked so, one at least must be set
abbrev pub one_set : String → Rule → Row
one_set n r = row n OneSet r

-- in training it may also be the empty string
abbrev pub eased : Row → Row
eased e = record { name = e.name; need = e.need; eased = true; rule = e.rule }

-- 10.1 Caller-Location
abbrev pub caller_location : List Row
caller_location =
    of_preset "name" (Value (Name 15))
    ∷ required "provider" (Value Provider)
    ∷ required "latitude" (Value (Coordinate 90))
    ∷ required "longitude" (Value (Coordinate 180))
    ∷ optional "accuracy" (Value Accuracy)
    ∷ optional "memo" (Value (Text 0 64))
    ∷ []

-- 10.2 Caller-Information; in a call that may have no contacts their array is empty, as Faults.antt says
abbrev pub caller_information : List Row
caller_information =
    required "region" (Value FireId)
    ∷ required "uid" (Value UserId)
    ∷ required "email" (Value (Text 1 254))
    ∷ required "last-modified" (Value Date)
    ∷ required "personal-information" (Object PersonalInformation)
    ∷ optional "emergency-contacts" (Objects 3 EmergencyContact)
    ∷ required "region-information" (Object RegionInformation)
    ∷ []

-- 10.3 Personal-Information
abbrev pub personal_information : List Row
personal_information =
    eased (required "name" (Value (Text 1 30)))
    ∷ eased (optional "kana" (Value (Text 0 30)))
    ∷ eased (required "address" (Value (Text 1 64)))
    ∷ eased (optional "tel" (Value (Telephone 0)))
    ∷ eased (optional "fax" (Value (Telephone 0)))
    ∷ required "sex" (Value Sex)
    ∷ eased (required "birthday" (Value Day))
    ∷ eased (required "location" (Object HomeLocation))
    ∷ []

-- 10.4 Home-Location
abbrev pub home_location : List Row
home_location =
    required "latitude" (Value (Coordinate 90))
    ∷ required "longitude" (Value (Coordinate 180))
    ∷ []

-- 10.5 Emergency-Contact
abbrev pub emergency_contact : List Row
emergency_contact =
    required "name" (Value (Text 1 30))
    ∷ optional "kana" (Value (Text 0 30))
    ∷ required "relation" (Value (Text 1 15))
    ∷ one_set "tel" (Value (Telephone 0))
    ∷ one_set "fax" (Value (Telephone 0))
    ∷ one_set "email" (Value (Text 0 254))
    ∷ []

-- 10.6 Region-Information
abbrev pub region_information : List Row
region_information =
    required "name" (Value Filled)
    ∷ required "tel" (Value (Telephone 1))
    ∷ []

-- 10.7 Live-Location
abbrev pub live_location : List Row
live_location =
    required "provider" (Value LiveProvider)
    ∷ required "latitude" (Value (Coordinate 90))
    ∷ required "longitude" (Value (Coordinate 180))
    ∷ required "accuracy" (Value Metres)
    ∷ required "date" (Value Date)
    ∷ []

-- the members of a type
unfoldable pub rows_of : Kind → List Row
rows_of CallerLocation = caller_location
rows_of CallerInformation = caller_information
rows_of PersonalInformation = personal_information
rows_of HomeLocation = home_location
rows_of EmergencyContact = emergency_contact
rows_of RegionInformation = region_information
rows_of LiveLocation = live_location

-- a row of the code's table
abbrev pub row_of : Entry → Row
row_of e = record { name = e.name.now; need = e.need; eased = e.eased; rule = e.rule }

-- the names of a type's members, numbered from 1
abbrev pub name_of : Row → List ℕ
name_of e = e.name

abbrev pub names_of : Kind → List (List ℕ)
names_of t = map name_of (rows_of t)
