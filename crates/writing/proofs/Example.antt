-- Document 01's example, the BYE and its 200, computed from the definitions (01 Writing). Assumes nothing.
use Prim.Native.Nat.{ℕ}
use Rattle.escapes.specs.Rfc7159.{is_broken, letter_of, letters_from, lone, spelt, text, took}
use Rattle.json_text.specs.inner.Begun as json
use Rattle.json_text.specs.inner.Machine.{opens, begin, ends, step, stops, walk, from}
use Rattle.json_text.specs.inner.Tour.{tour}
use Rattle.json_text.specs.Places.{part, spaces, past, is_open, is_shut, left, size, behind, closing, raw, next, value_of, follows, more, member_at, members_from, members}
use Rattle.json_text.specs.Places.{elements_from}
use Rattle.json_text.specs.Places.{elements, is_ws}
use Rattle.message.specs.Checks.{lacks, breaks, lowest, checked}
use Rattle.fields.specs.Field.{keeps}
use Rattle.fields.specs.Known.{has, note, noted, repeated}
use Rattle.message.specs.Message.{number_of, method_of, from_caller, to_caller, setting_of, same_side, wrong_side, wrong_number, sides_disagree, request_disagrees, disagrees}
use Rattle.message.specs.Message.{message_of}
use Rattle.values.specs.Spans.{text_at}
use Rattle.message.specs.Reading.{agreed, judged, known, reading, reporting, settled, shaped}
use Rattle.message.specs.Shape.{tag_at, tag_of, object_of}
use Rattle.values.specs.Value.{is_string, is_array, spelling_of, text_of, freely, ruled, word_spelled, number_at}
use Rattle.fields.specs.Via.{hop_places, hop_rule, hop_keeps, is_hop, via_rule}
use Rattle.octets.specs.Ascii.{ascii}
use Rattle.octets.specs.Class.{among, is_digit, is_lower, is_upper, is_letter, is_alnum, all}
use Rattle.octets.specs.Text.{same, stands_at}
use Rattle.rules.specs.Address.{address_rule, caller_rule, callee_rule, user_end, caller_end, callee_end, address_of}
use Rattle.rules.specs.Classes.{holds}
use Rattle.rules.specs.Date.{leap, days_in, date_rule}
use Rattle.rules.specs.Asks.{is_in, tag_asks, method_asks}
use Rattle.rules.specs.Pieces as pieces
use Rattle.rules.specs.Pieces.{run_length, digits, decimal_at, word_number_from, within, reads}
use Rattle.rules.specs.Sequence as sequence
use Rattle.rules.specs.Sequence.{sequence_rule, number_end, sequence_of}
use Rattle.rules.specs.Status.{index_in, listed, status_text}
use Rattle.rules.specs.Texts.{call_id_rule, host_rule, destination_rule, organization_rule}
use Rattle.utf8.specs.Rfc3629.{begins, goes_on, char_at, octets}
use Rattle.writing.specs.Outcome.{write}
use Rattle.writing.specs.Reply.{reply_text, reply_of, unanswered, wrong_code, reply_to, replying}
use mathlib.Core.List.{List, ◌++◌}
use mathlib.Core.Path.{◌≡◌, refl}

abbrev pub request : List ℕ
request =
    ascii "[\"request\",{\"CSeq\":\"7 BYE\",\"To\":\"net119:u1@nishi.caller\",\"From\":\"net119:fire@kita.callee\","
    ++ ascii "\"Call-ID\":\"A1.nx\",\"Date\":\"2024-02-29T23:59:59+0900\",\"Via\":[{\"host\":\"h1.nx\",\"destination\":\"kita.callee\",\"organization\":\"nx\"}]}]"

abbrev pub response : List ℕ
response =
    ascii "[\"response\",{\"Status\":\"200 OK\",\"CSeq\":\"7 BYE\",\"To\":\"net119:u1@nishi.caller\",\"From\":\"net119:fire@kita.callee\","
    ++ ascii "\"Call-ID\":\"A1.nx\",\"Date\":\"2024-03-01T00:00:00+0900\",\"Via\":[{\"host\":\"h1.nx\",\"destination\":\"kita.callee\",\"organization\":\"nx\"}]}]"

pub example : replying request 200 (ascii "2024-03-01T00:00:00+0900") ≡ write response
unfolding among is_digit is_lower is_upper is_letter is_alnum all same stands_at begins goes_on char_at octets is_ws opens begin ends step stops walk from part spaces past is_open
    is_shut
    left size behind closing raw next value_of follows more member_at members_from members elements_from elements sequence_rule number_end sequence_of run_length digits decimal_at
    word_number_from within reads leap days_in date_rule caller_rule callee_rule user_end caller_end callee_end address_of index_in listed status_text call_id_rule host_rule
    destination_rule
    organization_rule holds is_in tag_asks method_asks text_at number_of method_of from_caller to_caller setting_of same_side wrong_side wrong_number sides_disagree
    request_disagrees
    disagrees message_of agreed settled judged known shaped reading reporting tour json.begun json.begins lacks breaks lowest checked is_string is_array spelling_of text_of freely
    ruled word_spelled text is_broken spelt lone letters_from letter_of took tag_at tag_of object_of address_rule keeps hop_places hop_rule hop_keeps is_hop via_rule number_at has
    note noted
    repeated reply_text reply_of unanswered wrong_code reply_to replying pieces.piece_end pieces.has_piece sequence.cseq_number sequence.cseq_method
example = refl
