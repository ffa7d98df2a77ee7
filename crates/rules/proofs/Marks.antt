-- The marks of document 01 that are about a text alone ('Both sides of the mark'), and the bounds of its rules on both sides ('Rules' and
-- 'Required' of 01 Reading), computed from the definitions. Assumes nothing.
use Prim.Native.Nat.{◌+◌, ◌-◌, suc, zero, ℕ}
use lib.ListN.{replicate}
use mathlib.Core.Bool.{Bool, false, true}
use mathlib.Core.List.{List, ◌∷◌, []}
use mathlib.Core.Path.{◌≡◌, refl}
use Rattle.octets.specs.Ascii.{ascii}
use Rattle.octets.specs.Class.{all, among, is_alnum, is_digit, is_letter, is_lower, is_upper}
use Rattle.octets.specs.Text.{same, stands_at}
use Rattle.rules.specs.Classes.{holds}
use Rattle.rules.specs.Date.{date_rule, day_rule, days_in, leap}
use Rattle.rules.specs.Asks.{is_in, method_asks, tag_asks}
use Rattle.rules.specs.Names as names
use Rattle.rules.specs.Names.{methods, tags}
use Rattle.rules.specs.Numbers.{content_location, content_message_image, content_presence, content_text, content_text_image, tag_pong, tag_request, tag_response}
use Rattle.rules.specs.Numbers.{method_ack, method_callback, method_cancel, method_invite, method_message, method_notify, method_refer}
use Rattle.rules.specs.Numbers.{field_body, field_caller, field_cseq, field_call_id, field_call_mode, field_content_type, field_from, field_locations, field_request_service}
use Rattle.rules.specs.Numbers.{field_rescuee, field_secure_call, field_status, field_to, field_via, mode_training, rescuee_third_party, service_ambulance}
use Rattle.rules.specs.Words.{call_modes, content_types, rescuees, services}
use Rattle.rules.specs.Pieces.{word_number, piece_end, digits, has_piece, word_number_from, reads, run_length, decimal_at, within}
use Rattle.rules.specs.Sequence.{sequence_rule}
use Rattle.rules.specs.Status.{status_rule}
use Rattle.rules.specs.Texts.{begins_point, call_id_rule, destination_rule, fire_rule, host_rule, language_rule, memo_rule, organization_rule, points, no_break, user_rule}

-- Call-ID `A1` yes, `A.` no
pub call_ids : (call_id_rule (ascii "A1") ≡ true) × (call_id_rule (ascii "A.") ≡ false)
unfolding call_id_rule reads has_piece piece_end within run_length holds among is_alnum is_digit is_letter is_lower is_upper
call_ids = (refl, refl)

-- CSeq `4294967295 BYE` yes, `4294967296 BYE` and `01 BYE` no
pub sequences : (sequence_rule (ascii "4294967295 BYE") ≡ true) × ((sequence_rule (ascii "4294967296 BYE") ≡ false) × (sequence_rule (ascii "01 BYE") ≡ false))
unfolding sequence_rule reads has_piece piece_end run_length decimal_at holds word_number_from same stands_at among is_digit
sequences = (refl, (refl, refl))

-- Date 2000-02-29 yes, 1900-02-29 no
pub dates : (date_rule (ascii "2000-02-29T12:00:00+0900") ≡ true) × (date_rule (ascii "1900-02-29T12:00:00+0900") ≡ false)
unfolding date_rule reads has_piece piece_end digits decimal_at days_in leap same stands_at among is_digit
dates = (refl, refl)

-- a day alone: 2000-02-29 yes; 1900-02-29, a year 0000 and a day with its time no
pub day_texts :
    (day_rule (ascii "2000-02-29") ≡ true)
    × (day_rule (ascii "1900-02-29") ≡ false)
    × (day_rule (ascii "0000-01-01") ≡ false)
    × (day_rule (ascii "2000-02-29T12:00:00+0900") ≡ false)
unfolding day_rule reads has_piece piece_end digits decimal_at days_in leap same stands_at among is_digit
day_texts = (refl, refl, refl, refl)

-- a rule takes lo to hi letters, and neither one fewer nor one more
abbrev Takes : (List ℕ → Bool) → ℕ → ℕ → Type 0
Takes rule lo hi =
    (rule (replicate (lo - 1) 97) ≡ false)
    × (rule (replicate lo 97) ≡ true)
    × (rule (replicate hi 97) ≡ true)
    × (rule (replicate (hi + 1) 97) ≡ false)

-- Fire-ID 2–15, User-ID 1–15, Call-ID 2–64, host 1–253, destination 1–64, organization 2–10, Language two
pub lengths :
    Takes fire_rule 2 15
    × Takes user_rule 1 15
    × Takes call_id_rule 2 64
    × Takes host_rule 1 253
    × Takes destination_rule 1 64
    × Takes organization_rule 2 10
    × Takes language_rule 2 2
unfolding fire_rule user_rule call_id_rule host_rule destination_rule organization_rule language_rule reads has_piece piece_end within run_length holds among is_alnum is_digit
    is_letter is_lower
    is_upper
lengths = (
  (refl, refl, refl, refl),
  (refl, refl, refl, refl),
  (refl, refl, refl, refl),
  (refl, refl, refl, refl),
  (refl, refl, refl, refl),
  (refl, refl, refl, refl),
  (refl, refl, refl, refl),
)

-- destination: bytes 21 to 7E hex, and neither 20 nor 7F
pub destinations :
    (destination_rule (0x20 ∷ []) ≡ false)
    × (destination_rule (0x21 ∷ []) ≡ true)
    × (destination_rule (0x7E ∷ []) ≡ true)
    × (destination_rule (0x7F ∷ []) ≡ false)
unfolding destination_rule reads has_piece piece_end within run_length holds among
destinations = (refl, refl, refl, refl)

-- Status 100–699
pub statuses :
    (status_rule (ascii "099 x") ≡ false)
    × (status_rule (ascii "100 x") ≡ true)
    × (status_rule (ascii "699 x") ≡ true)
    × (status_rule (ascii "700 x") ≡ false)
unfolding status_rule reads has_piece piece_end digits decimal_at same stands_at among is_digit
statuses = (refl, refl, refl, refl)

-- so many of one character of three bytes
abbrev kana : ℕ → List ℕ
kana zero = []
kana (suc n) = 0xE3 ∷ 0x81 ∷ 0x82 ∷ kana n

-- Refer-Memo: at most 128 code points, no line break
pub memos :
    (memo_rule (replicate 128 97) ≡ true)
    × (memo_rule (replicate 129 97) ≡ false)
    × (memo_rule (kana 128) ≡ true)
    × (memo_rule (kana 129) ≡ false)
    × (memo_rule (0x61 ∷ 0x0A ∷ []) ≡ false)
    × (memo_rule (0x61 ∷ 0x0D ∷ []) ≡ false)
    × (memo_rule (0x61 ∷ 0x09 ∷ []) ≡ true)
unfolding memo_rule all no_break points begins_point among
memos = (refl, refl, refl, refl, refl, refl, refl)

-- a ping requires 25 and not 26, a pong 26 and not 25; REFER requires 12 and takes 13, INVITE takes both
pub fields :
    (tag_asks 3 25 ≡ 1)
    × (tag_asks 3 26 ≡ 0)
    × (tag_asks 4 25 ≡ 0)
    × (tag_asks 4 26 ≡ 1)
    × (method_asks 7 12 ≡ 1)
    × (method_asks 7 13 ≡ 2)
    × (method_asks 1 12 ≡ 2)
    × (method_asks 1 13 ≡ 2)
unfolding tag_asks method_asks is_in
fields = (refl, refl, refl, refl, refl, refl, refl, refl)

-- the names of numbers are those of the words at these places of the lists: tags
pub tag_names :
    (word_number tags (ascii "request") ≡ tag_request)
    × (word_number tags (ascii "response") ≡ tag_response)
    × (word_number tags (ascii "pong") ≡ tag_pong)
unfolding word_number_from same
tag_names = (refl, refl, refl)

-- methods
pub method-names :
    (word_number methods (ascii "INVITE") ≡ method_invite)
    × (word_number methods (ascii "CANCEL") ≡ method_cancel)
    × (word_number methods (ascii "ACK") ≡ method_ack)
    × (word_number methods (ascii "MESSAGE") ≡ method_message)
    × (word_number methods (ascii "CALLBACK") ≡ method_callback)
    × (word_number methods (ascii "REFER") ≡ method_refer)
    × (word_number methods (ascii "NOTIFY") ≡ method_notify)
unfolding word_number_from same
method-names = (refl, refl, refl, refl, refl, refl, refl)

-- Content-Types
pub content_names :
    (word_number content_types (ascii "text/plain") ≡ content_text)
    × (word_number content_types (ascii "text/vnd.net119.uri.image") ≡ content_text_image)
    × (word_number content_types (ascii "message/vnd.net119.uri.image") ≡ content_message_image)
    × (word_number content_types (ascii "message/vnd.net119.presence") ≡ content_presence)
    × (word_number content_types (ascii "message/vnd.net119.location") ≡ content_location)
unfolding word_number_from same
content_names = (refl, refl, refl, refl, refl)

-- fields
pub field-names :
    (word_number names.fields (ascii "CSeq") ≡ field_cseq)
    × (word_number names.fields (ascii "To") ≡ field_to)
    × (word_number names.fields (ascii "From") ≡ field_from)
    × (word_number names.fields (ascii "Call-ID") ≡ field_call_id)
    × (word_number names.fields (ascii "Via") ≡ field_via)
    × (word_number names.fields (ascii "Status") ≡ field_status)
    × (word_number names.fields (ascii "Content-Type") ≡ field_content_type)
    × (word_number names.fields (ascii "Body") ≡ field_body)
    × (word_number names.fields (ascii "Call-Mode") ≡ field_call_mode)
    × (word_number names.fields (ascii "Secure-Call") ≡ field_secure_call)
    × (word_number names.fields (ascii "Rescuee") ≡ field_rescuee)
    × (word_number names.fields (ascii "Request-Service") ≡ field_request_service)
    × (word_number names.fields (ascii "Locations") ≡ field_locations)
    × (word_number names.fields (ascii "Caller") ≡ field_caller)
unfolding word_number_from same
field-names = (refl, refl, refl, refl, refl, refl, refl, refl, refl, refl, refl, refl, refl, refl)

-- what a call says of its Caller
pub call-names :
    (word_number call_modes (ascii "training") ≡ mode_training)
    × (word_number rescuees (ascii "third-party") ≡ rescuee_third_party)
    × (word_number services (ascii "ambulance") ≡ service_ambulance)
unfolding word_number_from same
call-names = (refl, refl, refl)
