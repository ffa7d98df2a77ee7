-- Two INVITEs that differ in their Call-ID alone, and what is read of them, by computation: under every ceiling that has room for their 38 JSON
-- values, and so at the program's 16,384. Assumes nothing.
use Prim.Native.Nat.{ℕ, zero, suc, ◌-◌, ◌≤◌}
use Rattle.json_text.specs.inner.Begun as json
use Rattle.json_text.specs.inner.Begun.{begun}
use Rattle.json_text.specs.inner.Machine.{opens, begin, due, ends, step, stops, walk, from, point, expo}
use Rattle.json_text.specs.inner.Tour.{tour}
use Rattle.json_text.specs.Places.{part, spaces, past, is_open, is_shut, is_mark, left, unmarked, size, behind, closing, raw, next, is_ws, last_of, prev_of}
use Rattle.json_text.specs.Places.{value_of, follows, more, member_at, members_from, members, elements_from, elements}
use Rattle.message.specs.Checks.{lacks, breaks, lowest, checked}
use Rattle.coordinates.specs.Coordinate.{coordinate_of, decimals, has_minus, is_spelled, millionths_of, to_six, unsigned, whole}
use Rattle.fields.specs.Field.{call_of, caller_field, keeps, locations_field}
use Rattle.values.specs.Value.{is_string, is_array, is_object, spelling_of, text_of, freely, ruled, word_spelled, one_of, number_at}
use Rattle.fields.specs.Known.{has, note, noted, repeated}
use Rattle.message.specs.Message.{number_of, method_of, from_caller, to_caller, word_at, code_of, secure_of, setting_of, message_of}
use Rattle.message.specs.Message.{same_side, wrong_side, wrong_number, sides_disagree, callback_training, request_disagrees, disagrees, caller_place, callee_place}
use Rattle.message.specs.Reading.{agreed, settled, judged, known, shaped, reading, reporting}
use Rattle.fields.specs.Trail.{trail_of, trail_in, moved}
use Rattle.message.specs.Shape.{tag_at, tag_of, object_of}
use Rattle.escapes.specs.Rfc7159.{is_broken, letter_of, letters_from, lone, spells, spelt, text, took}
use Rattle.values.specs.Spans.{spelling_at, spelling_span, text_at}
use Rattle.fields.specs.Via.{hop_places, hop_rule, hop_keeps, is_hop, via_rule}
use Rattle.message.specs.declared.facts.Message.{Message}
use Rattle.std.specs.Prelude.{Ok}
use Rattle.octets.specs.Ascii.{ascii}
use Rattle.octets.specs.Class.{among, digits_rule, is_digit, is_lower, is_upper, is_letter, is_alnum, all}
use Rattle.octets.specs.Decimal.{tens}
use Rattle.octets.specs.Text.{before, same, stands_at}
use Rattle.particulars.specs.Faults.{array_faults, choices, each, faults, is_choice, is_needed, members_faults, none_set, object_faults, provider_in, row_faults, rows_faults}
use Rattle.particulars.specs.Faults.{rule_faults}
use Rattle.particulars.specs.Fields.{caller_faults, locations_faults, locations_from}
use Rattle.particulars.specs.Leaves as leaves
use Rattle.particulars.specs.Leaves.{filled_rule, is_blank, text_rule}
use Rattle.particulars.specs.Lowest.{is_sound}
use Rattle.particulars.specs.Members.{first_under, is_among, repeats, values_of}
use Rattle.particulars.specs.Types.{rows_of}
use Rattle.rules.specs.Address.{address_rule, caller_rule, callee_rule, user_end, caller_end, callee_end, address_of}
use Rattle.rules.specs.Classes.{holds}
use Rattle.rules.specs.Date.{leap, days_in, date_rule, day_rule}
use Rattle.rules.specs.Asks.{is_in, tag_asks, method_asks}
use Rattle.rules.specs.Pieces as pieces
use Rattle.rules.specs.Pieces.{run_length, digits, decimal_at, word_number_from, within, reads}
use Rattle.rules.specs.Sequence as sequence
use Rattle.rules.specs.Sequence.{sequence_rule, number_end, sequence_of}
use Rattle.rules.specs.Texts.{call_id_rule, fire_rule, host_rule, destination_rule, organization_rule, language_rule, begins_point, points, user_rule}
use Rattle.utf8.specs.Rfc3629.{begins, goes_on, char_at, octets}
use mathlib.Core.Bool.{true, false}
use mathlib.Core.List.{List, ◌++◌}
use mathlib.Core.Path.{◌≡◌, refl, subst}
use native.Mathlib.Omega.{arith}

-- an INVITE of this Call-ID
abbrev pub invite_of : List ℕ → List ℕ
invite_of id =
    ascii "[\"request\",{\"CSeq\":\"1 INVITE\",\"To\":\"net119:fire@kita.callee\",\"From\":\"net119:u1@nishi.caller\",\"Call-ID\":\""
    ++ (id
    ++ (ascii "\",\"Date\":\"2024-02-29T23:59:59+0900\",\"Via\":[{\"host\":\"h1.nx\",\"destination\":\"kita.callee\",\"organization\":\"nx\"}]"
    ++ (ascii ",\"Session-ID\":\"S1\",\"Call-Mode\":\"emergency\",\"Call-Test\":0,\"Secure-Call\":false,\"Rescuee\":\"caller\""
    ++ (ascii ",\"Request-Service\":\"fire\",\"Language\":\"ja\",\"Locations\":[],\"User-Agent\":\"\",\"Caller\":{\"region\":\"nishi\",\"uid\":\"u1\",\"email\":\"E\""
    ++ (ascii ",\"last-modified\":\"2024-02-29T09:00:00+0900\",\"personal-information\":{\"name\":\"N\",\"address\":\"A\",\"sex\":\"male\""
    ++ ascii ",\"birthday\":\"1982-01-19\",\"location\":{\"latitude\":35.5,\"longitude\":139.5}},\"region-information\":{\"name\":\"R\",\"tel\":\"119\"}}}]")))))

-- what is read of one whose Call-ID has five bytes
abbrev pub invite : Message
invite =
    record {
      tag = 1;
      method = 1;
      number = 1;
      status = 0;
      caller = true;
      secure = false;
      cseq = 19;
      to = 35;
      from = 68;
      call = 103;
      via = 151;
      callid = record { start = 104; end = 109 };
      calleraddress = record { start = 69; end = 91 };
      calleeaddress = record { start = 36; end = 59 };
      user = record { start = 7; end = 9 };
      callerfire = record { start = 10; end = 15 };
      calleefire = record { start = 12; end = 16 };
      trail = record { count = 1; last = 152; end = 216; seam = 151; host = record { start = 151; end = 151 } };
    }

-- what is read of the two under a ceiling of c values
abbrev pub BothRead : ℕ → Type 0
BothRead c = (reading c (invite_of (ascii "A1.nx")) ≡ Ok invite) × (reading c (invite_of (ascii "B2.nx")) ≡ Ok invite)

-- n more than c, one by one, so that it computes
abbrev and-more : ℕ → ℕ → ℕ
and-more zero c = c
and-more (suc n) c = suc (and-more n c)

read_above : (c : ℕ) → BothRead (and-more 38 c)
unfolding among is_digit is_lower is_upper is_letter is_alnum all same stands_at begins goes_on char_at octets is_ws opens begin due ends step stops walk from point expo
    tour begun json.begins part spaces past is_open is_shut is_mark left unmarked size behind closing raw next value_of follows more member_at members_from members elements_from
    elements
    sequence_rule number_end sequence_of run_length digits decimal_at word_number_from within reads leap days_in date_rule caller_rule callee_rule user_end caller_end callee_end
    address_of
    call_id_rule host_rule destination_rule organization_rule language_rule holds is_in tag_asks method_asks spelling_at text_at spelling_span number_of method_of
    from_caller to_caller word_at code_of secure_of setting_of same_side wrong_side wrong_number sides_disagree callback_training request_disagrees disagrees caller_place
    callee_place message_of agreed settled judged known shaped reading reporting lacks breaks lowest checked is_string is_array is_object spelling_of text_of freely ruled
    word_spelled
    text spells is_broken spelt lone letters_from letter_of took tag_at tag_of object_of
    one_of address_rule keeps hop_places hop_rule hop_keeps is_hop via_rule number_at has note noted repeated pieces.piece_end
    pieces.has_piece sequence.cseq_number sequence.cseq_method last_of prev_of trail_of trail_in moved
    call_of caller_field locations_field caller_faults locations_faults locations_from faults object_faults members_faults provider_in none_set choices is_choice
    rows_faults row_faults is_needed rule_faults array_faults each is_sound values_of first_under repeats is_among rows_of
    leaves.keeps text_rule filled_rule is_blank points begins_point fire_rule user_rule day_rule digits_rule tens before coordinate_of is_spelled has_minus unsigned whole decimals
    millionths_of to_six
read_above c = (refl, refl)

pub invites_read : (c : ℕ) → 38 ≤ c → BothRead c
invites_read c room = let e : and-more 38 (c - 38) ≡ c = omega arith in subst BothRead e (read_above (c - 38))
