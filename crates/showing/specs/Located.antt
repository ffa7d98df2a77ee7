-- What `positions` shows (02 §4). Cited by the contracts of `src/located.rt`. Assumes nothing.
use Rattle.std.specs.Prelude.{ℕ, ◌+◌, ℤ, pos, negsuc, cond, List, [], ◌∷◌, ◌++◌, Option, Some, None, Ok, Err}
use Rattle.message.specs.Reading.{ample, reading}
use Rattle.message.specs.Refusal.{Reading, number, place}
use Rattle.octets.specs.Ascii.{ascii}
use Rattle.octets.specs.Decimal.{shown}
use Rattle.positions.specs.Positions.{home_of, positions_of}
use Rattle.positions.specs.declared.objects.Home.{Home}
use Rattle.positions.specs.declared.objects.Position.{Position}
use Rattle.showing.specs.Shown.{unknown}
use Rattle.showing.specs.Words.{hex_bytes, is_bytes}

-- a number in decimal, with a minus below zero
unfoldable pub signed_shown : ℤ → List ℕ
signed_shown (pos n) = shown n
signed_shown (negsuc n) = ascii "-" ++ shown (n + 1)

-- ` LAT LONG`
unfoldable pub pair_text : ℤ → ℤ → List ℕ
pair_text latitude longitude = ascii " " ++ (signed_shown latitude ++ (ascii " " ++ signed_shown longitude))

-- for each position
unfoldable pub pairs_text : List Position → List ℕ
pairs_text [] = []
pairs_text (p ∷ ps) = pair_text p.latitude p.longitude ++ pairs_text ps

-- ` home LAT LONG`, if there is one
unfoldable pub home_text : Option Home → List ℕ
home_text (Some h) = ascii " home" ++ pair_text h.latitude h.longitude
home_text None = []

-- `ok` and all of these, or `no N PLACE`
unfoldable pub located_text : List ℕ → Reading → List ℕ
located_text s (Ok m) = ascii "ok" ++ (pairs_text (positions_of s m) ++ (home_text (home_of s m) ++ ascii "\n"))
located_text s (Err e) = ascii "no " ++ (shown (number e) ++ (ascii " " ++ (shown (place e) ++ ascii "\n")))

-- `positions HEX`
unfoldable pub positions_text : List ℕ → List ℕ
positions_text w = cond (is_bytes w) (located_text (hex_bytes w) (reading ample (hex_bytes w))) unknown
