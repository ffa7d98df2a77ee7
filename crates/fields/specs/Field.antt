-- Each known field's rule on its value's own bytes (01 Reading, 'Rules'): besides them it sees tag, method and Content-Type alone, and 23 Caller the fields 15, 18
-- and 19 (02 §4).
-- Assumes nothing.
use Prim.Native.Char.{code}
use Rattle.std.specs.Prelude.{ℕ, ◌+◌, eqb, ltb, get_or, Bool, false, not, ◌&&◌, ◌||◌, cond, List, [], ◌∷◌}
use Rattle.escapes.specs.Placing.{place_of}
use Rattle.json_text.specs.Places.{elements}
use Rattle.values.specs.Value.{is_string, is_array, spelling_of, text_of, freely, ruled, one_of}
use Rattle.fields.specs.Via.{via_rule}
use Rattle.fields.specs.declared.judging.Setting.{Setting}
use Rattle.letters.specs.inner.Reach.{sequence_reach, address_reach, date_reach, call_id_reach}
use Rattle.octets.specs.Class.{all, among}
use Rattle.particulars.specs.Fields.{caller_faults, live_faults, locations_faults}
use Rattle.particulars.specs.Lowest.{is_sound, lowest_place}
use Rattle.particulars.specs.declared.types.Call.{Call}
use Rattle.rules.specs.Address.{address_rule}
use Rattle.rules.specs.Date.{date_rule}
use Rattle.rules.specs.Numbers.{content_location, content_message_image, content_presence, content_text, content_text_image, field_body, field_caller, field_locations}
use Rattle.rules.specs.Numbers.{method_message, mode_training, rescuee_third_party, service_ambulance, tag_pong}
use Rattle.rules.specs.Sequence.{sequence_rule}
use Rattle.rules.specs.Status.{status_rule}
use Rattle.rules.specs.Texts.{fire_rule, call_id_rule, desk_rule, message_id_rule, image_rule, memo_rule, language_rule}
use Rattle.rules.specs.Words.{availabilities, message_types, notify_types, presences, call_modes, call_tests, truths, rescuees, services}

-- A rule sees a setting besides its value: the numbers of tag, method, Content-Type, Call-Mode, Rescuee and Request-Service, 0 where there is none.

-- Status: in a pong `available` or `unavailable`; else its rule, with free text after the space
unfoldable pub status_field : ℕ → List ℕ → Bool
status_field tag v = cond (eqb tag tag_pong) (ruled (one_of availabilities) v) (freely status_rule v)

-- Content-Type of a MESSAGE, or of a NOTIFY
unfoldable pub content_field : ℕ → List ℕ → Bool
content_field method v = cond (eqb method method_message) (ruled (one_of message_types) v) (ruled (one_of notify_types) v)

-- a Content-Type's number is the image's, under either of its names (02 §14)
unfoldable pub names_image : ℕ → Bool
names_image content = eqb content content_text_image || eqb content content_message_image

-- what the call says of its Caller: whether it is training; and whether there may be emergency contacts: not in training, not for a third party, and only for an
-- ambulance
unfoldable pub call_of : Setting → Call
call_of k = record {
  training = eqb k.mode mode_training;
  contacts = not (eqb k.mode mode_training) && (not (eqb k.rescuee rescuee_third_party) && eqb k.service service_ambulance);
}

-- 21 Locations, 23 Caller, and a location: each has its own faults, all at once (02 §4)
unfoldable pub locations_field : List ℕ → Bool
locations_field v = is_sound (locations_faults v)

unfoldable pub caller_field : Call → List ℕ → Bool
caller_field call v = is_sound (caller_faults call v)

unfoldable pub live_field : List ℕ → Bool
live_field v = is_sound (live_faults v)

-- Body, by Content-Type: text a string; the image's a string that starts `https://`; presence `online` or `offline`; the location
-- a Live-Location; refer as Status (any other number counts as refer: a Body is only asked about once field 9 has kept its rule)
unfoldable pub body_field : ℕ → List ℕ → Bool
body_field content v =
    cond (eqb content content_text) (is_string v)
    (cond (names_image content) (freely image_rule v)
    (cond (eqb content content_presence) (ruled (one_of presences) v)
    (cond (eqb content content_location) (live_field v) (freely status_rule v))))

-- an array of strings
unfoldable pub strings_field : List ℕ → Bool
strings_field v = is_array v && all (λ p. eqb (get_or v p 0) (code "\"")) (elements v 0)

-- the rules of the fields 1 to 26, in the paper's order
abbrev pub field_rules : Setting → List (List ℕ → Bool)
field_rules k =
    ruled sequence_rule  -- 1 CSeq
    ∷ ruled address_rule  -- 2 To
    ∷ ruled address_rule  -- 3 From
    ∷ ruled date_rule  -- 4 Date
    ∷ ruled call_id_rule  -- 5 Call-ID
    ∷ via_rule  -- 6 Via
    ∷ status_field k.tag  -- 7 Status
    ∷ ruled message_id_rule  -- 8 Message-ID
    ∷ content_field k.method  -- 9 Content-Type
    ∷ body_field k.content  -- 10 Body
    ∷ ruled fire_rule  -- 11 Refer-To
    ∷ ruled fire_rule  -- 12 Referred-By
    ∷ ruled memo_rule  -- 13 Refer-Memo
    ∷ ruled call_id_rule  -- 14 Session-ID
    ∷ ruled (one_of call_modes)  -- 15 Call-Mode
    ∷ one_of call_tests  -- 16 Call-Test, by its own bytes
    ∷ one_of truths  -- 17 Secure-Call, by its own bytes
    ∷ ruled (one_of rescuees)  -- 18 Rescuee
    ∷ ruled (one_of services)  -- 19 Request-Service
    ∷ ruled language_rule  -- 20 Language
    ∷ locations_field  -- 21 Locations
    ∷ is_string  -- 22 User-Agent
    ∷ caller_field (call_of k)  -- 23 Caller
    ∷ strings_field  -- 24 Options
    ∷ ruled desk_rule  -- 25 Destination
    ∷ ruled desk_rule  -- 26 Responded-By
    ∷ []

-- no field has the number 0, or one above 26
abbrev pub no_rule : List ℕ → Bool
no_rule v = false

-- whether a value keeps the rule of field n
unfoldable pub keeps : Setting → ℕ → List ℕ → Bool
keeps k n = get_or (no_rule ∷ field_rules k) n no_rule

-- Where a value breaks its rule (01 Reading, 9): of the fields 1 to 5 a string at its first bad letter (02 §12), of particulars at the lowest of their faults (02 §4).

-- the rule of field n, 1 to 5, on its text: `lettered` of proofs/LetterLaws.antt says that it is the one that `field_rules` lists
unfoldable pub letter_rule : ℕ → List ℕ → Bool
letter_rule n t =
    cond (eqb n 1) (sequence_rule t)
    (cond (ltb n 4) (address_rule t)
    (cond (eqb n 4) (date_rule t)
    (call_id_rule t)))

-- how many octets of the text begin an allowed one: the inner machines of `letters`, which nobody has to believe, since `bad-letter` of
-- proofs/LetterLaws.antt says that what stands behind those octets is the first bad letter, or the end of a text that stops short
unfoldable pub letter_reach : ℕ → List ℕ → ℕ
letter_reach n t =
    cond (eqb n 1) (sequence_reach t)
    (cond (ltb n 4) (address_reach t)
    (cond (eqb n 4) (date_reach t)
    (call_id_reach t)))

-- where that letter is spelled, counted from the string's opening quote; the first byte of a value that is no string
unfoldable pub letter_at : ℕ → List ℕ → ℕ
letter_at n v = cond (is_string v) (1 + place_of (spelling_of v) (letter_reach n (text_of v))) 0

-- the faults of the particulars that the value of field n has to hold, counted from the value's first byte; a field that has none to hold has no such fault
unfoldable pub particulars_faults : Setting → ℕ → List ℕ → List ℕ
particulars_faults k n v =
    cond (eqb n field_locations) (locations_faults v)
    (cond (eqb n field_caller) (caller_faults (call_of k) v)
    (cond (eqb n field_body && eqb k.content content_location) (live_faults v) []))

-- where a value breaks the rule of field n, counted from the value's first byte
unfoldable pub fault_at : Setting → ℕ → List ℕ → ℕ
fault_at k n v = cond (among 1 5 n) (letter_at n v) (lowest_place (particulars_faults k n v))
