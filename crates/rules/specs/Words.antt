-- The fields and members whose text is one of a few words (01 Reading, 'Rules'; 02 §4), each word with a number from 1, 0 for any other text.
-- What the contracts of `src/words.rt` cite. Assumes nothing.
use Rattle.std.specs.Prelude.{ℕ, List, ◌++◌, ◌∷◌, []}
use Rattle.octets.specs.Ascii.{ascii}

-- Status in a pong
abbrev pub availabilities : List (List ℕ)
availabilities = ascii "available" ∷ ascii "unavailable" ∷ []

-- Content-Type of an image, under its two names: that of TS-1022 7.5 and that of 5.11 (02 §14)
abbrev pub image_types : List (List ℕ)
image_types = ascii "text/vnd.net119.uri.image" ∷ ascii "message/vnd.net119.uri.image" ∷ []

-- Content-Type of a MESSAGE
abbrev pub message_types : List (List ℕ)
message_types = ascii "text/plain" ∷ image_types

-- Content-Type of a NOTIFY
abbrev pub notify_types : List (List ℕ)
notify_types = ascii "message/vnd.net119.presence" ∷ ascii "message/vnd.net119.location" ∷ ascii "message/vnd.net119.refer" ∷ []

-- Content-Type of either, by which Body's rule goes
abbrev pub content_types : List (List ℕ)
content_types = message_types ++ notify_types

-- Body of a presence
abbrev pub presences : List (List ℕ)
presences = ascii "online" ∷ ascii "offline" ∷ []

-- 15 Call-Mode
abbrev pub call_modes : List (List ℕ)
call_modes = ascii "emergency" ∷ ascii "training" ∷ []

-- 16 Call-Test: the number's own bytes
abbrev pub call_tests : List (List ℕ)
call_tests = ascii "0" ∷ ascii "1" ∷ []

-- 17 Secure-Call: the literal's own bytes; 1 false, 2 true
abbrev pub truths : List (List ℕ)
truths = ascii "false" ∷ ascii "true" ∷ []

-- 18 Rescuee
abbrev pub rescuees : List (List ℕ)
rescuees = ascii "caller" ∷ ascii "third-party" ∷ []

-- 19 Request-Service
abbrev pub services : List (List ℕ)
services = ascii "ambulance" ∷ ascii "fire" ∷ ascii "unknown" ∷ ascii "callback" ∷ []

-- the providers of a caller's locations, in the order in which locations stand (02 §4)
abbrev pub providers : List (List ℕ)
providers = ascii "gps" ∷ ascii "network" ∷ ascii "preset" ∷ ascii "map" ∷ []

-- those of a live location
abbrev pub live_providers : List (List ℕ)
live_providers = ascii "gps" ∷ ascii "network" ∷ []

-- a person's sex
abbrev pub sexes : List (List ℕ)
sexes = ascii "male" ∷ ascii "female" ∷ []
