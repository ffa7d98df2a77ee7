-- The positions of an accepted message (02 §4): those of Locations or of a Live-Location, in order, and the home. m is what is read of the text s; the contracts of
-- `src/messages.rt` cite `positions_of` and `home_of`. Assumes nothing.
use Rattle.json_text.specs.Places.{bytes}
use Rattle.message.specs.Message.{word_at}
use Rattle.message.specs.Placing.{places_of}
use Rattle.message.specs.declared.facts.Message.{Message}
use Rattle.positions.specs.Objects.{home_in, live_in, locations_in}
use Rattle.positions.specs.declared.objects.Home.{Home}
use Rattle.positions.specs.declared.objects.Position.{Position}
use Rattle.rules.specs.Numbers.{content_location, field_body, field_caller, field_content_type, field_locations, method_invite, method_notify, tag_request}
use Rattle.rules.specs.Words.{content_types}
use Rattle.std.specs.Prelude.{ℕ, eqb, get_or, Bool, ◌&&◌, cond, List, [], ◌∷◌, Option, None}

-- where the value of field n stands, and its own bytes
abbrev pub field_place : List ℕ → ℕ → ℕ
field_place s n = get_or (places_of s) n 0

abbrev pub field_bytes : List ℕ → ℕ → List ℕ
field_bytes s n = bytes s (field_place s n)

-- a request of this method
unfoldable pub is_request : ℕ → Message → Bool
is_request method m = eqb m.tag tag_request && eqb m.method method

-- a NOTIFY request whose Content-Type is message/vnd.net119.location
unfoldable pub is_live : List ℕ → Message → Bool
is_live s m = is_request method_notify m && eqb (word_at content_types s (field_place s field_content_type)) content_location

-- each of an INVITE request's Locations, or the Live-Location; other messages have none
unfoldable pub positions_of : List ℕ → Message → List Position
positions_of s m = cond (is_request method_invite m) (locations_in (field_bytes s field_locations)) (cond (is_live s m) (live_in (field_bytes s field_body) ∷ []) [])

-- the home in Caller of an INVITE request
unfoldable pub home_of : List ℕ → Message → Option Home
home_of s m = cond (is_request method_invite m) (home_in (field_bytes s field_caller)) None
