-- Marks of the reading (01 Reading), each a whole message on one side of a row or on both, computed from the definitions. Assumes nothing.
use Rattle.json_text.specs.inner.Begun as json
use Rattle.json_text.specs.inner.Begun.{begun}
use Rattle.json_text.specs.inner.Machine.{begin, ends, expo, from, hexes, is_esc, is_hex_digit, opens, point, step, stops, walk}
use Rattle.json_text.specs.inner.Tour.{tour}
use Prim.Native.Nat.{ℕ, zero, suc}
use Rattle.json_text.specs.Places.{behind, closing, elements, elements_from, follows, is_mark, is_open, is_shut, left, member_at, members, members_from, more, next, part, is_ws}
use Rattle.json_text.specs.Places.{past, raw, size, spaces, unmarked, value_of}
use Rattle.message.specs.Checks.{breaks, checked, lacks, lowest}
use Rattle.fields.specs.Field.{particulars_faults}
use Rattle.particulars.specs.Lowest.{lowest as lowest_of, lowest_place}
use Rattle.fields.specs.Field.{body_field, content_field, fault_at, keeps, letter_at, letter_reach, names_image, status_field}
use Rattle.values.specs.Value.{freely, is_array, is_string, one_of, ruled, spelling_of, text_of, word_spelled, number_at}
use Rattle.fields.specs.Known.{has, note, noted, repeated}
use Rattle.message.specs.Message.{word_at, disagrees, from_caller, method_of, number_of, request_disagrees, same_side, setting_of, sides_disagree, to_caller}
use Rattle.message.specs.Message.{wrong_number, wrong_side}
use Rattle.message.specs.Reading.{agreed, ample, judged, known, reading, reporting, settled, shaped}
use Rattle.message.specs.Shape.{object_of, tag_at, tag_of}
use Rattle.escapes.specs.Encoding.{encoded}
use Rattle.escapes.specs.Placing.{place_of, places_from}
use Rattle.escapes.specs.Rfc7159 as strings
use Rattle.escapes.specs.Rfc7159.{escape_of, is_broken, is_high, is_low, is_surrogate, joined, letter_of, letters_from, lone, nibble, quad, spelt, text, took, unit}
use Rattle.values.specs.Spans.{spelling_at, text_at}
use Rattle.fields.specs.Via.{hop_keeps, hop_places, hop_rule, is_hop, via_rule}
use Rattle.std.specs.Prelude.{Ok, Err}
use Rattle.message.specs.declared.refusals.Refusal.TheVariants.{Length, Utf8, Json, Deep, Shape, Twice, Missing, Rule, Disagree, Many}
use Rattle.message.specs.Refusal.{Reading, number, place}
use Rattle.letters.specs.inner.Reach as letters
use Rattle.octets.specs.Ascii.{ascii}
use Rattle.octets.specs.Class.{all, among, is_alnum, is_digit, is_letter, is_lower, is_upper}
use Rattle.octets.specs.Text.{same, stands_at}
use Rattle.rules.specs.Address.{address_of, address_rule, callee_end, callee_rule, caller_end, caller_rule, user_end}
use Rattle.rules.specs.Classes.{holds}
use Rattle.rules.specs.Date.{date_rule, days_in, leap}
use Rattle.rules.specs.Asks.{is_in, method_asks, tag_asks}
use Rattle.rules.specs.Pieces as pieces
use Rattle.rules.specs.Pieces.{digits, word_number_from, reads, run_length, decimal_at, within}
use Rattle.rules.specs.Sequence as sequence
use Rattle.rules.specs.Sequence.{number_end, sequence_of, sequence_rule}
use Rattle.rules.specs.Status.{status_rule}
use Rattle.rules.specs.Texts.{begins_point, call_id_rule, destination_rule, fire_rule, host_rule, image_rule, memo_rule, message_id_rule, no_break, organization_rule, points}
use Rattle.utf8.specs.Rfc3629.{begins, char_at, goes_on, octets}
use lib.ListN.{replicate}
use mathlib.Core.Bool.{Bool, false, true}
use mathlib.Core.List.{List, [], ◌++◌}
use mathlib.Core.Path.{◌≡◌, refl}

-- document 01's number and place of each row, and document 02's 11
pub numbers : (number Length ≡ 2) × (number (Utf8 7) ≡ 3) × (number (Json 7) ≡ 4) × (number (Deep 7) ≡ 5) × (number Shape ≡ 6)
    × (number (Twice 7) ≡ 7) × (number (Missing 7) ≡ 8) × (number (Rule 7) ≡ 9) × (number Disagree ≡ 10) × (number (Many 7) ≡ 11)
numbers = (refl, refl, refl, refl, refl, refl, refl, refl, refl, refl)

pub places : (place Length ≡ 0) × (place (Utf8 7) ≡ 7) × (place (Json 7) ≡ 7) × (place (Deep 7) ≡ 7) × (place Shape ≡ 0)
    × (place (Twice 7) ≡ 7) × (place (Missing 7) ≡ 7) × (place (Rule 7) ≡ 7) × (place Disagree ≡ 0) × (place (Many 7) ≡ 7)
places = (refl, refl, refl, refl, refl, refl, refl, refl, refl, refl)

-- row 2: no bytes, and over 32,768; as many as that go on to row 4
pub lengths : (reading 0 [] ≡ Err Length) × (reading 0 (replicate 32768 120) ≡ Err (Json 0)) × (reading 0 (replicate 32769 120) ≡ Err Length)
unfolding reading reporting octets char_at begins goes_on among tour begun json.begins from walk step is_ws begin is_digit
lengths = (refl, refl, refl)

-- a message that begins so, with its tag and fields that are not named here, of this method, from one address to another; its other fields keep their rules
abbrev told : List ℕ → List ℕ → List ℕ → List ℕ → List ℕ
told begun method from to =
    begun
    ++ (ascii "\"CSeq\":\"7 "
    ++ (method
    ++ (ascii "\",\"From\":\"net119:"
    ++ (from
    ++ (ascii "\",\"To\":\"net119:"
    ++ (to
    ++ ascii "\",\"Date\":\"2024-02-29T23:59:59+0900\",\"Call-ID\":\"A1\",\"Via\":[{\"host\":\"h\",\"destination\":\"d\",\"organization\":\"og\"}]}]"))))))

-- the two parties
abbrev caller : List ℕ
caller = ascii "u1@nishi.caller"

abbrev callee : List ℕ
callee = ascii "fire@kita.callee"

-- a request with this Content-Type, whose value begins at 57, and this Body, of this method, from one address to another
abbrev sent : List ℕ → List ℕ → List ℕ → List ℕ → List ℕ → List ℕ
sent content body =
    told (ascii "[\"request\",{\"Message-ID\":\"caller-nishi-1\",\"Content-Type\":\"" ++ (content ++ (ascii "\",\"Body\":" ++ (body ++ ascii ","))))

-- an image under its second name (02 §14), with this Body, whose value begins at 95
abbrev image : List ℕ → List ℕ → List ℕ → List ℕ → List ℕ
image = sent (ascii "message/vnd.net119.uri.image")

-- a message is read
abbrev is_read : Reading → Bool
is_read (Err e) = false
is_read (Ok m) = true

pub rows :
    -- row 7: a known name twice, at the opening quote of the repeat; `date` is none
    (reading ample (ascii "[\"ping\",{\"Date\":0,\"date\":0,\"Date\":0}]") ≡ Err (Twice 27))
    -- row 8: 4 and 25 are missing
    × (reading ample (ascii "[\"ping\",{\"Via\":0}]") ≡ Err (Missing 4))
    -- row 9: none is missing, and all break their rules
    × (reading ample (ascii "[\"ping\",{\"Via\":0,\"Date\":0,\"Destination\":0}]") ≡ Err (Rule 24))
    -- row 8 again, on the method's fields: a NOTIFY without 9 and 10
    × (reading ample (told (ascii "[\"request\",{") (ascii "NOTIFY") caller callee) ≡ Err (Missing 9))
    -- row 10: From and To on the same side, in a request and in a response
    × (reading ample (told (ascii "[\"request\",{") (ascii "BYE") caller (ascii "u2@kita.caller")) ≡ Err Disagree)
    × (reading ample (told (ascii "[\"response\",{\"Status\":\"200 OK\",") (ascii "BYE") callee (ascii "fire@nishi.callee")) ≡ Err Disagree)
    -- an image in a caller's MESSAGE, under either name; row 9 where its Body does not start `https://` or is no string
    × (is_read (reading ample (sent (ascii "text/vnd.net119.uri.image") (ascii "\"https://x\"") (ascii "MESSAGE") caller callee)) ≡ true)
    × (is_read (reading ample (image (ascii "\"https://x\"") (ascii "MESSAGE") caller callee)) ≡ true)
    × (reading ample (image (ascii "\"http://x\"") (ascii "MESSAGE") caller callee) ≡ Err (Rule 95))
    × (reading ample (image (ascii "{}") (ascii "MESSAGE") caller callee) ≡ Err (Rule 95))
    -- row 10: a callee's; row 9 comes first
    × (reading ample (image (ascii "\"https://x\"") (ascii "MESSAGE") callee caller) ≡ Err Disagree)
    × (reading ample (image (ascii "\"http://x\"") (ascii "MESSAGE") callee caller) ≡ Err (Rule 95))
    -- row 9, at Content-Type: one under NOTIFY
    × (reading ample (image (ascii "\"https://x\"") (ascii "NOTIFY") caller callee) ≡ Err (Rule 57))
unfolding reading reporting octets char_at begins goes_on tour begun json.begins from walk step is_ws begin opens point expo ends stops shaped tag_of tag_at object_of elements
    elements_from more follows past spaces
    behind size left unmarked is_mark is_open is_shut raw closing part word_number_from same stands_at members members_from member_at value_of next known repeated has number_at
    note noted
    judged checked lacks breaks lowest tag_asks method_asks is_in keeps ruled freely is_string is_array spelling_of text_of spelling_at text_at word_spelled text is_broken spelt
    lone
    letters_from letter_of took via_rule is_hop hop_places hop_rule hop_keeps
    address_rule status_field status_rule date_rule days_in leap caller_rule callee_rule sequence_rule call_id_rule destination_rule host_rule organization_rule reads run_length
    decimal_at
    digits within holds all among is_alnum is_digit is_letter is_lower is_upper pieces.has_piece pieces.piece_end setting_of method_of number_of word_at sequence_of number_end
    sequence.cseq_number sequence.cseq_method settled agreed disagrees sides_disagree same_side from_caller to_caller address_of user_end caller_end callee_end
    message_id_rule content_field one_of body_field names_image image_rule wrong_side wrong_number request_disagrees fault_at letter_at particulars_faults lowest_place lowest_of
rows = (refl, refl, refl, refl, refl, refl, refl, refl, refl, refl, refl, refl, refl)

-- a request of this Call-ID, whose value begins at 193
abbrev called : List ℕ → List ℕ
called id =
    ascii "[\"request\",{\"CSeq\":\"7 BYE\",\"From\":\"net119:u1@nishi.caller\",\"To\":\"net119:fire@kita.callee\",\"Date\":\"2024-02-29T23:59:59+0900\""
    ++ (ascii ",\"Via\":[{\"host\":\"h\",\"destination\":\"d\",\"organization\":\"og\"}],\"Call-ID\":\""
    ++ (id
    ++ ascii "\"}]"))

-- a callee's REFER with this Refer-Memo, whose value begins at 64
abbrev referred : List ℕ → List ℕ
referred memo = told (ascii "[\"request\",{\"Refer-To\":\"kita\",\"Referred-By\":\"kita\",\"Refer-Memo\":\"" ++ (memo ++ ascii "\",")) (ascii "REFER") callee caller

-- 02 §2
pub spelled :
    -- BYE and a Call-ID spelled with escapes
    (is_read (reading ample (told (ascii "[\"re\\u0071uest\",{") (ascii "\\u0042YE") caller callee)) ≡ true)
    × (is_read (reading ample (called (ascii "A\\u0031"))) ≡ true)
    -- row 9: a lone surrogate in a Call-ID, and a pair
    × (reading ample (called (ascii "A1\\uD800")) ≡ Err (Rule 196))
    × (reading ample (called (ascii "A1\\uD83D\\uDE00")) ≡ Err (Rule 196))
    -- row 7: a name spelled two ways, at the opening quote of the second; a broken name is none, so row 8
    × (reading ample (ascii "[\"ping\",{\"Date\":0,\"D\\u0061te\":0}]") ≡ Err (Twice 18))
    × (reading ample (ascii "[\"ping\",{\"Date\":0,\"Date\\uD800\":0,\"Date\\uD800\":0}]") ≡ Err (Missing 6))
    -- `text\/plain`, and a broken Body, which is free
    × (is_read (reading ample (sent (ascii "text\\/plain") (ascii "\"\\uDC00\"") (ascii "MESSAGE") caller callee)) ≡ true)
    -- an image's Body: eight characters are judged, decoded
    × (is_read (reading ample (image (ascii "\"https:\\/\\/\\uDC00\"") (ascii "MESSAGE") caller callee)) ≡ true)
    × (reading ample (image (ascii "\"https:\\/\\uDC00\"") (ascii "MESSAGE") caller callee) ≡ Err (Rule 95))
    -- Refer-Memo: a pair is let through, a line break is not
    × (is_read (reading ample (referred (ascii "\\uD83D\\uDE00"))) ≡ true)
    × (reading ample (referred (ascii "a\\rb")) ≡ Err (Rule 64))
unfolding reading reporting octets char_at begins goes_on tour begun json.begins from walk step is_ws begin opens point expo ends stops shaped tag_of tag_at object_of elements
    elements_from more follows past spaces
    behind size left unmarked is_mark is_open is_shut raw closing part word_number_from same stands_at members members_from member_at value_of next known repeated has number_at
    note noted
    judged checked lacks breaks lowest tag_asks method_asks is_in keeps ruled freely is_string is_array spelling_of text_of spelling_at text_at word_spelled text is_broken spelt
    lone
    letters_from letter_of took is_hex_digit is_esc hexes memo_rule no_break points begins_point fire_rule escape_of strings.short unit quad nibble joined strings.pair is_high
    is_low
    is_surrogate encoded via_rule is_hop hop_places hop_rule
    hop_keeps
    address_rule status_field status_rule date_rule days_in leap caller_rule callee_rule sequence_rule call_id_rule destination_rule host_rule organization_rule reads run_length
    decimal_at
    digits within holds all among is_alnum is_digit is_letter is_lower is_upper pieces.has_piece pieces.piece_end setting_of method_of number_of word_at sequence_of number_end
    sequence.cseq_number sequence.cseq_method settled agreed disagrees sides_disagree same_side from_caller to_caller address_of user_end caller_end callee_end
    message_id_rule content_field one_of body_field names_image image_rule wrong_side wrong_number request_disagrees fault_at letter_at particulars_faults lowest_place lowest_of
    letter_reach place_of places_from
    letters.call_id_reach
    letters.reach_of letters.run_reach letters.follows letters.end_reach
spelled = (refl, refl, refl, refl, refl, refl, refl, refl, refl, refl, refl)

-- 02 §12: a ping of this Date, whose value begins at 16
abbrev dated : List ℕ → List ℕ
dated v = ascii "[\"ping\",{\"Date\":" ++ (v ++ ascii ",\"Via\":0,\"Destination\":0}]")

pub letter-places :
    -- a method that is none, at the letter where it leaves CALLBACK
    (reading ample (told (ascii "[\"request\",{") (ascii "CALX") caller callee) ≡ Err (Rule 25))
    -- the 29th of a February that has 28 days; a month of 13, behind an escape; a month's second digit that is an escape
    × (reading ample (dated (ascii "\"2023-02-29T00:00:00+0000\"")) ≡ Err (Rule 26))
    × (reading ample (dated (ascii "\"2023\\u002D13\"")) ≡ Err (Rule 28))
    × (reading ample (dated (ascii "\"2023-1\\u0033\"")) ≡ Err (Rule 23))
    -- the closing quote where the text stops short; the first byte of a value that is no string
    × (reading ample (dated (ascii "\"2023-02\"")) ≡ Err (Rule 24))
    × (reading ample (dated (ascii "20230229")) ≡ Err (Rule 16))
unfolding reading reporting octets char_at begins goes_on tour begun json.begins from walk step is_ws begin opens point expo ends stops shaped tag_of tag_at object_of elements
    elements_from more follows past spaces
    behind size left unmarked is_mark is_open is_shut raw closing part word_number_from same stands_at members members_from member_at value_of next known repeated has number_at
    note noted
    judged checked lacks breaks lowest tag_asks method_asks is_in keeps ruled freely is_string is_array spelling_of text_of spelling_at text_at word_spelled text is_broken spelt
    lone
    letters_from letter_of took is_hex_digit is_esc hexes memo_rule no_break points begins_point fire_rule escape_of strings.short unit quad nibble joined strings.pair is_high
    is_low
    is_surrogate encoded via_rule is_hop hop_places hop_rule
    hop_keeps
    address_rule status_field status_rule date_rule days_in leap caller_rule callee_rule sequence_rule call_id_rule destination_rule host_rule organization_rule reads run_length
    decimal_at
    digits within holds all among is_alnum is_digit is_letter is_lower is_upper pieces.has_piece pieces.piece_end setting_of method_of number_of word_at sequence_of number_end
    sequence.cseq_number sequence.cseq_method settled agreed disagrees sides_disagree same_side from_caller to_caller address_of user_end caller_end callee_end
    message_id_rule content_field one_of body_field names_image image_rule wrong_side wrong_number request_disagrees fault_at letter_at particulars_faults lowest_place lowest_of
    letter_reach place_of places_from
    letters.sequence_reach
    letters.date_reach letters.month_reach letters.day_reach letters.call_id_reach letters.reach_of letters.count_reach letters.fixed_reach
    letters.words_reach letters.common letters.number_reach letters.meets letters.low letters.top letters.run_reach letters.follows letters.end_reach
letter-places = (refl, refl, refl, refl, refl, refl)

-- 02 §9: six values, an array, its tag, its object and the object's three; the count stands with an 8, and is 0 with an 11, at the first value too many
abbrev six : List ℕ
six = ascii "[\"ping\",{\"Via\":0,\"Date\":0,\"x\":[]}]"

pub counts :
    (reporting 6 six ≡ record { reading = Err (Missing 25); count = 6 })
    × (reporting 5 six ≡ record { reading = Err (Many 30); count = 0 })
    × (reporting 2 six ≡ record { reading = Err (Many 8); count = 0 })
unfolding reporting octets char_at begins goes_on tour begun json.begins from walk step is_ws begin opens point expo ends stops shaped tag_of tag_at object_of elements
    elements_from more
    follows past spaces
    behind size left unmarked is_mark is_open is_shut raw closing part word_number_from same stands_at members members_from member_at value_of next known repeated has number_at
    note noted
    judged checked lacks breaks lowest tag_asks method_asks is_in keeps ruled freely is_string is_array spelling_of text_of text_at word_spelled text is_broken spelt lone
    letters_from
    letter_of took among
counts = (refl, refl, refl)

-- so many objects of Via, and a comma behind each
abbrev hops : ℕ → List ℕ
hops zero = []
hops (suc n) = ascii "{\"host\":\"h\",\"destination\":\"d\",\"organization\":\"og\"}," ++ hops n

-- Via of one object more than that
abbrev via_of : ℕ → List ℕ
via_of n = ascii "[" ++ (hops n ++ ascii "{\"host\":\"h\",\"destination\":\"d\",\"organization\":\"og\"}]")

-- Via: 1–16 objects
pub via-counts : (via_rule (ascii "[]") ≡ false) × (via_rule (via_of 0) ≡ true) × (via_rule (via_of 15) ≡ true) × (via_rule (via_of 16) ≡ false)
unfolding via_rule is_array elements elements_from more follows past spaces behind size left is_open is_shut is_ws is_hop hop_places hop_rule hop_keeps noted repeated has note
    number_at
    members members_from member_at value_of next raw closing part word_number_from same ruled freely is_string spelling_of text_of word_spelled text is_broken spelt lone
    letters_from
    letter_of took host_rule destination_rule organization_rule reads
    pieces.has_piece pieces.piece_end run_length within holds among all is_alnum is_digit is_letter is_lower is_upper
via-counts = (refl, refl, refl, refl)
