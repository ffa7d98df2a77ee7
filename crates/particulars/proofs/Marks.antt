-- Both sides of the marks (02 §4), by computation: Locations, and a Caller in calls that are training or not, with contacts or without. Assumes nothing.
use Prim.Native.Nat.{ℕ}
use Prim.Native.String.{String}
use Rattle.coordinates.specs.Coordinate.{coordinate_of, decimals, has_minus, is_spelled, millionths_of, to_six, unsigned, whole}
use Rattle.escapes.specs.Rfc7159.{is_broken, letter_of, letters_from, lone, spelt, text, took}
use Rattle.json_text.specs.Places.{behind, closing, elements, elements_from, follows, is_mark, is_open, is_shut, is_ws, left, member_at, members, members_from, more, next, part}
use Rattle.json_text.specs.Places.{past, raw, size, spaces, unmarked, value_of}
use Rattle.octets.specs.Ascii.{ascii}
use Rattle.octets.specs.Class.{all, among, digits_rule, is_alnum, is_digit, is_letter, is_lower, is_upper}
use Rattle.octets.specs.Decimal.{tens}
use Rattle.octets.specs.Text.{before, same, stands_at}
use Rattle.particulars.specs.Faults.{array_faults, choices, each, faults, is_choice, is_needed, is_unset, members_faults, none_set, object_faults, provider_in, provider_under}
use Rattle.particulars.specs.Faults.{row_faults, rows_faults, rule_faults}
use Rattle.particulars.specs.Fields.{caller_faults, locations_faults, locations_from, nearest, provider_at, step_back}
use Rattle.particulars.specs.Leaves.{accuracy_rule, filled_rule, is_blank, is_given, keeps, least_name, metres_rule, provider_of, text_rule}
use Rattle.particulars.specs.Lowest.{lower, lowest}
use Rattle.particulars.specs.Members.{first_under, is_among, repeats, values_of}
use Rattle.particulars.specs.Types.{rows_of}
use Rattle.particulars.specs.declared.types.Call.{Call}
use Rattle.rules.specs.Classes.{holds}
use Rattle.rules.specs.Date.{date_rule, day_rule, days_in, leap}
use Rattle.rules.specs.Pieces as pieces
use Rattle.rules.specs.Pieces.{decimal_at, digits, reads, run_length, within, word_number_from}
use Rattle.rules.specs.Texts.{begins_point, fire_rule, points, user_rule}
use Rattle.std.specs.Prelude.{None, Option, Some}
use Rattle.values.specs.Value.{is_array, is_string, number_at, one_of, ruled, spelling_of, text_of, word_spelled}
use mathlib.Core.Bool.{false, true}
use mathlib.Core.List.{List, [], ◌∷◌, ◌++◌}
use mathlib.Core.Path.{◌≡◌, refl}

-- the place that answers for Locations of these bytes
abbrev locations : String → Option ℕ
locations s = lowest (locations_faults (ascii s))

pub locations-judged :
    (locations "[]" ≡ None)
    × (locations "[{\"provider\":\"gps\",\"latitude\":90,\"longitude\":-180},{\"provider\":\"map\",\"latitude\":0,\"longitude\":0,\"accuracy\":0}]" ≡ None)
    -- no object; no array
    × (locations "[7]" ≡ Some 1)
    × (locations "{}" ≡ Some 0)
    -- a missing member at the brace, before a wrong one; the lower of two wrong ones
    × (locations "[{\"latitude\":91,\"longitude\":0}]" ≡ Some 1)
    × (locations "[{\"provider\":\"gps\",\"longitude\":181,\"latitude\":91}]" ≡ Some 31)
    -- a repeat at its quote, and not its value
    × (locations "[{\"provider\":\"gps\",\"latitude\":0,\"longitude\":0,\"latitude\":91}]" ≡ Some 46)
    -- a preset without a name, with an empty one, with one; metres that are measured under `map`
    × (locations "[{\"provider\":\"preset\",\"latitude\":0,\"longitude\":0}]" ≡ Some 1)
    × (locations "[{\"provider\":\"preset\",\"name\":\"\",\"latitude\":0,\"longitude\":0}]" ≡ Some 29)
    × (locations "[{\"provider\":\"preset\",\"name\":\"a\",\"latitude\":0,\"longitude\":0}]" ≡ None)
    × (locations "[{\"provider\":\"map\",\"accuracy\":5,\"latitude\":0,\"longitude\":0}]" ≡ Some 30)
    -- the provider steps back, whatever stands between
    × (locations "[{\"provider\":\"map\",\"latitude\":0,\"longitude\":0},{\"provider\":\"gps\",\"latitude\":0,\"longitude\":0}]" ≡ Some 59)
unfolding locations_faults locations_from nearest provider_at step_back faults object_faults members_faults provider_in provider_under none_set choices is_choice is_unset
    rows_faults row_faults is_needed rule_faults array_faults each lower lowest values_of first_under repeats number_at is_among rows_of keeps text_rule filled_rule is_blank
    least_name accuracy_rule is_given metres_rule provider_of points begins_point fire_rule user_rule day_rule digits_rule tens before coordinate_of is_spelled has_minus unsigned
    whole decimals
    millionths_of to_six behind closing elements elements_from follows is_mark is_open is_shut is_ws left member_at members members_from more next part past raw size
    spaces unmarked value_of same among is_digit all ruled one_of is_array is_string spelling_of text_of word_spelled word_number_from text is_broken spelt lone letters_from
    letter_of took
locations-judged = (refl, refl, refl, refl, refl, refl, refl, refl, refl, refl, refl, refl)

-- a Caller with this sex, these contacts and this name, in hex digits of its bytes as they stand between the quotes
abbrev caller : String → List ℕ → String → List ℕ
caller sex name contacts =
    ascii "{\"region\":\"nishi\",\"uid\":\"u1\",\"email\":\"E\",\"last-modified\":\"2024-02-29T09:00:00+0900\",\"personal-information\":{\"name\":\""
    ++ (name
    ++ (ascii "\",\"address\":\"A\",\"sex\":\""
    ++ (ascii sex
    ++ (ascii "\",\"birthday\":\"1982-01-19\",\"location\":{\"latitude\":35.5,\"longitude\":139.5}},\"emergency-contacts\":"
    ++ (ascii contacts
    ++ ascii ",\"region-information\":{\"name\":\"R\",\"tel\":\"119\"}}")))))

abbrev in_call : Call
in_call = record { training = false; contacts = true }

abbrev in_training : Call
in_training = record { training = true; contacts = false }

-- a name of thirty kana, of three bytes each, and of thirty-one
abbrev kana : List ℕ → List ℕ
kana l = 0xE3 ∷ 0x82 ∷ 0xA2 ∷ l

abbrev ten : List ℕ → List ℕ
ten l = kana (kana (kana (kana (kana (kana (kana (kana (kana (kana l)))))))))

pub caller-judged :
    (lowest (caller_faults in_call (caller "male" (ten (ten (ten []))) "[]")) ≡ None)
    × (lowest (caller_faults in_call (caller "male" (kana (ten (ten (ten [])))) "[]")) ≡ Some 115)
    -- an empty name, in training alone; an empty sex, never
    × (lowest (caller_faults in_call (caller "male" [] "[]")) ≡ Some 115)
    × (lowest (caller_faults in_training (caller "male" [] "[]")) ≡ None)
    × (lowest (caller_faults in_training (caller "" [] "[]")) ≡ Some 138)
    -- contacts: one that sets nothing, one that does; none in training
    × (lowest (caller_faults in_call (caller "male" (ascii "N") "[{\"name\":\"A\",\"relation\":\"R\",\"tel\":\"\"}]")) ≡ Some 240)
    × (lowest (caller_faults in_call (caller "male" (ascii "N") "[{\"name\":\"A\",\"relation\":\"R\",\"tel\":\"1\"}]")) ≡ None)
    × (lowest (caller_faults in_training (caller "male" (ascii "N") "[{\"name\":\"A\",\"relation\":\"R\",\"tel\":\"1\"}]")) ≡ Some 239)
unfolding caller_faults faults object_faults members_faults provider_in provider_under none_set choices is_choice is_unset
    rows_faults row_faults is_needed rule_faults array_faults each lower lowest values_of first_under repeats number_at is_among rows_of keeps text_rule filled_rule is_blank
    least_name accuracy_rule is_given metres_rule provider_of points begins_point fire_rule user_rule day_rule date_rule days_in leap digits_rule tens before coordinate_of
    is_spelled has_minus
    unsigned whole decimals
    millionths_of to_six behind closing elements elements_from follows is_mark is_open is_shut is_ws left member_at members members_from more next part past raw size
    spaces unmarked value_of same among is_digit is_lower is_upper is_letter is_alnum all ruled one_of is_array is_string spelling_of text_of word_spelled word_number_from text
    is_broken spelt lone letters_from
    letter_of took reads run_length digits decimal_at within holds pieces.has_piece pieces.piece_end stands_at
caller-judged = (refl, refl, refl, refl, refl, refl, refl, refl)
