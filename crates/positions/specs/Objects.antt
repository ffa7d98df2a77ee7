-- What the objects of a field tell of positions (02 §4): Locations (21), a Live-Location (10) and the home in Caller (23), each on the own bytes v of the field's
-- value. Members go by the names of TS-1022 section 10's tables, as particulars has them. Total on any bytes: where there is no such member, no such object
-- or no such number, a coordinate is 0, a provider 0 and an accuracy none. Assumes nothing.
use Prim.Native.Char.{code}
use Prim.Native.String.{String}
use Rattle.coordinates.specs.Coordinate.{coordinate_of}
use Rattle.json_text.specs.Places.{bytes, elements}
use Rattle.octets.specs.Ascii.{ascii}
use Rattle.octets.specs.Decimal.{decimal_of}
use Rattle.particulars.specs.Leaves.{metres_rule, provider_of}
use Rattle.particulars.specs.Members.{values_of}
use Rattle.particulars.specs.Types.{names_of}
use Rattle.particulars.specs.declared.types.Kind.TheVariants.{CallerInformation, CallerLocation, HomeLocation, LiveLocation, PersonalInformation}
use Rattle.particulars.specs.declared.types.Kind.{Kind}
use Rattle.positions.specs.declared.objects.Home.{Home}
use Rattle.positions.specs.declared.objects.Position.{Position}
use Rattle.rules.specs.Pieces.{word_number}
use Rattle.std.specs.Option.{unwrap_or}
use Rattle.std.specs.Prelude.{ℕ, ℤ, eqb, get_or, length, map, min, pos, replicate, Bool, cond, List, Option, Some, None}

-- an object opens at o
abbrev pub opens : List ℕ → ℕ → Bool
opens v o = eqb (get_or v o 0) (code "{")

-- the places of the first values of the object at o, by the numbers of its type's names, 0 where there is none
unfoldable pub values_at : Kind → List ℕ → ℕ → List ℕ
values_at t v o = cond (opens v o) (values_of t v o) (replicate 9 0)

-- a place, or v's end for none: nothing stands there
unfoldable pub or_end : List ℕ → ℕ → ℕ
or_end v p = cond (eqb p 0) (length v) p

-- where the value of the member of this name stands in the object of type t at o, and its own bytes
unfoldable pub place_named : Kind → String → List ℕ → ℕ → ℕ
place_named t n v o = or_end v (get_or (values_at t v o) (word_number (names_of t) (ascii n)) 0)

abbrev pub value_named : Kind → String → List ℕ → ℕ → List ℕ
value_named t n v o = bytes v (place_named t n v o)

-- the whole millionths of a degree that a value is, within so many degrees
unfoldable pub millionths : ℕ → List ℕ → ℤ
millionths degrees w = unwrap_or (coordinate_of degrees w) (pos 0)

-- whole metres, of which a message may have more than a number of 64 bits holds: then the largest
unfoldable pub metres_of : List ℕ → Option ℕ
metres_of w = cond (metres_rule w) (Some (min (decimal_of w) 18446744073709551615)) None

-- what a location tells, a Caller-Location or a Live-Location: the provider's number (1 gps, 2 network, 3 preset, 4 map), the coordinates, and the accuracy
unfoldable pub position_at : Kind → List ℕ → ℕ → Position
position_at t v o =
    record {
      provider = provider_of (value_named t "provider" v o);
      latitude = millionths 90 (value_named t "latitude" v o);
      longitude = millionths 180 (value_named t "longitude" v o);
      accuracy = metres_of (value_named t "accuracy" v o);
    }

-- each of Locations, in order
unfoldable pub locations_in : List ℕ → List Position
locations_in v = map (position_at CallerLocation v) (elements v 0)

-- a Live-Location
unfoldable pub live_in : List ℕ → Position
live_in v = position_at LiveLocation v 0

-- a home, where an object opens at o
unfoldable pub home_at : List ℕ → ℕ → Option Home
home_at v o =
    cond (opens v o)
    (Some (record { latitude = millionths 90 (value_named HomeLocation "latitude" v o); longitude = millionths 180 (value_named HomeLocation "longitude" v o) })) None

-- the home in Caller: Personal-Information's location
unfoldable pub home_in : List ℕ → Option Home
home_in v = home_at v (place_named PersonalInformation "location" v (place_named CallerInformation "personal-information" v 0))
