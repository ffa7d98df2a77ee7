-- The rules of three fields (02 §4) on the own bytes v of their values: 21 Locations, 23 Caller, and 10 Body where it is a location. What the contracts of
-- `src/fields.rt` cite; of each the lowest place answers. Assumes nothing.
use Prim.Native.Char.{code}
use Rattle.json_text.specs.Places.{elements}
use Rattle.particulars.specs.Faults.{fault_if, faults, provider_in, provider_name}
use Rattle.particulars.specs.Members.{values_of}
use Rattle.particulars.specs.declared.types.Call.{Call}
use Rattle.particulars.specs.declared.types.Kind.TheVariants.{CallerInformation, CallerLocation, LiveLocation}
use Rattle.std.specs.Prelude.{ℕ, eqb, ltb, get_or, false, ◌&&◌, cond, List, [], ◌∷◌, ◌++◌}
use Rattle.values.specs.Value.{is_array}

-- in a location nothing is eased, and there are no contacts: so what the call is does not matter
abbrev pub any_call : Call
any_call = record { training = false; contacts = false }

-- the number of the provider of the location at o; 0 where none of the four is told there
unfoldable pub provider_at : List ℕ → ℕ → ℕ
provider_at v o = cond (eqb (get_or v o 0) (code "{")) (provider_in CallerLocation v (values_of CallerLocation v o)) 0

-- a fault at its provider's value, where the provider of the location at o stands before w in the order gps, network, preset, map; w is that of the nearest location
-- before it that tells one of the four, 0 where there is none
unfoldable pub step_back : List ℕ → ℕ → ℕ → List ℕ
step_back v w o = fault_if (ltb 0 (provider_at v o) && ltb (provider_at v o) w) (get_or (values_of CallerLocation v o) provider_name 0)

-- what the next location is held against: n, or still w where n tells none
unfoldable pub nearest : ℕ → ℕ → ℕ
nearest w n = cond (eqb n 0) w n

-- the locations at these places, w being the provider of the nearest before them
unfoldable pub locations_from : List ℕ → ℕ → List ℕ → List ℕ
locations_from v w [] = []
locations_from v w (o ∷ os) =
    (faults 1 any_call CallerLocation v o ++ step_back v w o) ++ locations_from v (nearest w (provider_at v o)) os

-- 21 Locations: an array of Caller-Locations
unfoldable pub locations_faults : List ℕ → List ℕ
locations_faults v = cond (is_array v) (locations_from v 0 (elements v 0)) (0 ∷ [])

-- 23 Caller: Caller-Information
unfoldable pub caller_faults : Call → List ℕ → List ℕ
caller_faults call v = faults 3 call CallerInformation v 0

-- 10 Body, a location: Live-Location
unfoldable pub live_faults : List ℕ → List ℕ
live_faults v = faults 1 any_call LiveLocation v 0
