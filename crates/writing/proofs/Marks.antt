-- Marks of the writer (01 Writing), computed from the definitions; document 01's own reply is in Example.antt. Assumes nothing.
use Rattle.escapes.specs.Encoding.{encoded}
use Rattle.escapes.specs.Rfc7159.{escape_of, is_broken, is_high, is_low, is_surrogate, joined, letter_of, letters_from, lone, nibble, quad, short, spells, spelt, text, took, unit}
use Rattle.json_text.specs.inner.Begun as json
use Rattle.json_text.specs.inner.Machine.{begin, from, opens, step, stops, walk}
use Prim.Native.Nat.{ℕ}
use Rattle.frame.specs.Edit.{added, stops_of}
use Rattle.json_text.specs.inner.Machine.{ends}
use Rattle.json_text.specs.inner.Tour.{tour}
use Rattle.json_text.specs.Places.{behind, closing, elements, elements_from, follows, is_open, is_shut, left as left_of, member_at, members, members_from, more, next, part}
use Rattle.json_text.specs.Places.{last_of, is_ws}
use Rattle.json_text.specs.Places.{past, raw, size, spaces, value_of}
use Rattle.message.specs.Checks.{breaks, checked, lacks, lowest}
use Rattle.fields.specs.Field.{keeps}
use Rattle.fields.specs.Hop.{destination_of, hop_of, host_of}
use Rattle.fields.specs.Known.{has, note, noted, repeated}
use Rattle.message.specs.Message.{word_at, disagrees, from_caller, message_of, method_of, number_of, request_disagrees, same_side, setting_of, sides_disagree, to_caller}
use Rattle.message.specs.Message.{probe_of, wrong_number, wrong_side}
use Rattle.message.specs.Reading.{agreed, judged, known, reading, reporting, settled, shaped}
use Rattle.message.specs.Shape.{object_of, tag_at, tag_of}
use Rattle.values.specs.Spans.{spelling_at, text_at}
use Rattle.values.specs.Value.{freely, is_array, is_string, ruled, spelling_of, text_of, word_spelled, number_at}
use Rattle.fields.specs.Via.{hop_keeps, hop_places, hop_rule, is_hop, via_rule}
use Rattle.octets.specs.Ascii.{ascii}
use Rattle.octets.specs.Class.{all, among, is_alnum, is_digit, is_letter, is_lower, is_upper}
use Rattle.octets.specs.Splice.{written}
use Rattle.octets.specs.Text.{same, stands_at}
use Rattle.rules.specs.Address.{address_of, address_rule, callee_end, callee_rule, caller_end, caller_rule, user_end}
use Rattle.rules.specs.Classes.{holds}
use Rattle.rules.specs.Date.{date_rule, days_in, leap}
use Rattle.rules.specs.Asks.{is_in, method_asks, tag_asks}
use Rattle.rules.specs.Pieces as pieces
use Rattle.rules.specs.Pieces.{digits, word_number_from, reads, run_length, decimal_at, within}
use Rattle.rules.specs.Sequence as sequence
use Rattle.rules.specs.Sequence.{number_end, sequence_of, sequence_rule}
use Rattle.rules.specs.Texts.{call_id_rule, destination_rule, host_rule, organization_rule}
use Rattle.std.specs.Prelude.{Ok, Err}
use Rattle.utf8.specs.Rfc3629.{begins, char_at, goes_on, octets}
use Rattle.writing.specs.Adding.{add_to, adding, entry, path_rule}
use Rattle.writing.specs.Objects.{is_ours, some}
use Rattle.writing.specs.Outcome.{answered, fitted, output_left, put, refuse, write}
use Rattle.writing.specs.Texting.{texting}
use Rattle.writing.specs.declared.answers.Refusal.TheVariants.{Broken, Full, Long, Loop, Room}
use lib.ListN.{replicate}
use mathlib.Core.Bool.{true}
use mathlib.Core.List.{List, ◌++◌}
use mathlib.Core.Path.{◌≡◌, refl}

-- a BYE up to its last Via object
abbrev begun : List ℕ
begun =
    ascii "[\"request\",{\"CSeq\":\"7 BYE\",\"To\":\"net119:u1@nishi.caller\",\"From\":\"net119:fire@kita.callee\",\"Call-ID\":\"A1\""
    ++ ascii ",\"Date\":\"2024-02-29T23:59:59+0900\",\"Via\":[{\"host\":\"h\",\"destination\":\"d\",\"organization\":\"og\"}"

-- adding: a comma and our entry, right after the last Via object
pub adds :
    adding (begun ++ ascii " ]}]") (ascii "h2") (ascii "d") (ascii "og")
    ≡ write (begun ++ ascii ",{\"host\":\"h2\",\"destination\":\"d\",\"organization\":\"og\"} ]}]")
unfolding reading reporting tour json.begun json.begins octets char_at begins goes_on from walk step is_ws begin opens ends stops shaped tag_of tag_at object_of elements
    elements_from
    more follows past spaces behind size left_of is_open is_shut raw closing part word_number_from same stands_at members members_from member_at value_of next known repeated has
    number_at note noted judged checked lacks breaks lowest tag_asks method_asks is_in keeps ruled freely is_string is_array spelling_of text_of spelling_at text_at word_spelled
    text
    is_broken spelt lone letters_from letter_of took via_rule is_hop hop_places hop_rule hop_keeps address_rule date_rule days_in leap caller_rule callee_rule sequence_rule
    call_id_rule
    destination_rule host_rule organization_rule reads run_length decimal_at digits within holds all among is_alnum is_digit is_letter is_lower is_upper pieces.has_piece
    pieces.piece_end
    setting_of method_of number_of word_at sequence_of number_end sequence.cseq_number sequence.cseq_method settled agreed disagrees sides_disagree same_side wrong_side
    wrong_number
    request_disagrees from_caller to_caller address_of user_end caller_end callee_end message_of adding add_to entry path_rule some is_ours spells host_of destination_of hop_of
    added stops_of
    last_of
adds = refl

-- the Via of a request, at 0: our object and fifteen others, of which nothing is asked here
abbrev sixteen : List ℕ
sixteen = ascii "[{\"host\":\"h\",\"destination\":\"d\"},{},{},{},{},{},{},{},{},{},{},{},{},{},{},{}]"

-- adding: 34, our host and destination in one Via object, comes before 35, sixteen objects
pub loop_before-full :
    (add_to sixteen (probe_of 1) (ascii "h") (ascii "d") (ascii "og") ≡ refuse Loop)
    × (add_to sixteen (probe_of 1) (ascii "h") (ascii "e") (ascii "og") ≡ refuse Full)
unfolding add_to probe_of some is_ours host_of destination_of hop_of hop_places repeated has number_at note noted members members_from member_at value_of next raw closing part
    word_number_from same elements elements_from more follows past spaces behind size left_of is_open is_shut is_ws spelling_at spelling_of word_spelled spells text is_broken
    spelt lone
    letters_from letter_of took
loop_before-full = (refl, refl)

-- an object is ours by its texts, however they are spelled; the text of a part of a message (02 §2)
pub by-texts :
    (is_ours (ascii "h") (ascii "d") (ascii "{\"ho\\u0073t\":\"\\u0068\",\"destination\":\"d\"}") ≡ true)
    × (texting (ascii "h\\u0031") ≡ write (ascii "h1"))
    × (texting (ascii "\\uD834") ≡ refuse Broken)
unfolding is_ours spells host_of destination_of hop_of hop_places repeated has number_at note noted members members_from member_at value_of next raw closing part word_number_from
    same
    more follows past spaces behind size left_of is_open is_shut is_ws spelling_at spelling_of word_spelled texting text is_broken spelt lone letters_from letter_of took escape_of
    short
    unit joined quad nibble is_high is_low is_surrogate encoded among is_digit
by-texts = (refl, refl, refl)

-- 39, result over 32,768; 33, output shorter than the result
pub answers :
    (answered 40000 (write (replicate 32768 97)) ≡ Ok 32768)
    × (answered 40000 (write (replicate 32769 97)) ≡ Err Long)
    × (answered 32767 (write (replicate 32768 97)) ≡ Err Room)
unfolding fitted
answers = (refl, refl, refl)

-- bytes past the result stay: three bytes into three, and into four
pub outputs : (output_left (ascii "xyz") (write (ascii "abc")) ≡ ascii "abc") × (output_left (ascii "wxyz") (write (ascii "abc")) ≡ ascii "abcz")
unfolding put written
outputs = (refl, refl)
