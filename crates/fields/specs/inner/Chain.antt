-- The rules of the fields from 4 on as the code goes through them, by tests on the field's number. `chain-keeps` of proofs/ChainLaws.antt ties them to
-- the list in Field.antt. Assumes nothing.
use Rattle.std.specs.Prelude.{ℕ, eqb, leb, ltb, Bool, true, ◌&&◌, ◌||◌, cond, List}
use Rattle.fields.specs.Field.{names_image, strings_field}
use Rattle.values.specs.Value.{is_string, freely, ruled, one_of}
use Rattle.fields.specs.Via.{via_rule}
use Rattle.fields.specs.declared.judging.Setting.{Setting}
use Rattle.rules.specs.Date.{date_rule}
use Rattle.rules.specs.Numbers.{content_location, content_presence, content_text, method_message, tag_pong}
use Rattle.rules.specs.Status.{status_rule}
use Rattle.rules.specs.Texts.{fire_rule, call_id_rule, desk_rule, image_rule, message_id_rule, memo_rule, language_rule}
use Rattle.rules.specs.Words.{availabilities, call_modes, call_tests, message_types, notify_types, presences, truths, rescuees, services}

-- the fields that are a text under a rule of their own, from 11 on: 11, 12 Fire-ID; 14 Session-ID; 15 Call-Mode; 18 Rescuee; 19 Request-Service;
-- 20 Language; 25, 26 a Fire-ID, then `.callee`
unfoldable pub later_rule : ℕ → List ℕ → Bool
later_rule n t =
    cond (ltb n 13) (fire_rule t)
    (cond (eqb n 14) (call_id_rule t)
    (cond (eqb n 15) (one_of call_modes t)
    (cond (eqb n 18) (one_of rescuees t)
    (cond (eqb n 19) (one_of services t)
    (cond (eqb n 20) (language_rule t)
    (desk_rule t))))))

-- and from 4 on
unfoldable pub plain_rule : ℕ → List ℕ → Bool
plain_rule n t =
    cond (eqb n 4) (date_rule t)
    (cond (eqb n 5) (call_id_rule t)
    (cond (eqb n 8) (message_id_rule t)
    (later_rule n t)))

-- 7 Status, 9 Content-Type and 10 Body: what is asked of the text, by tag, method and Content-Type
unfoldable pub on_status : ℕ → List ℕ → Bool
on_status tag t = cond (eqb tag tag_pong) (one_of availabilities t) (status_rule t)

unfoldable pub on_type : ℕ → List ℕ → Bool
on_type method t = cond (eqb method method_message) (one_of message_types t) (one_of notify_types t)

unfoldable pub on_body : ℕ → List ℕ → Bool
on_body content t =
    cond (eqb content content_text) true
    (cond (names_image content) (image_rule t)
    (cond (eqb content content_presence) (one_of presences t) (status_rule t)))

-- what is asked of the text of field n
unfoldable pub on_text : Setting → ℕ → List ℕ → Bool
on_text k n t =
    cond (eqb n 7) (on_status k.tag t)
    (cond (eqb n 9) (on_type k.method t)
    (cond (eqb n 10) (on_body k.content t)
    (plain_rule n t)))

-- the fields whose value is taken by its own bytes or by its kind: 16 Call-Test the number written 0 or 1; 17 Secure-Call true or false;
-- 22 User-Agent a string; 24 Options an array of strings
unfoldable pub kind_rule : ℕ → List ℕ → Bool
kind_rule n v =
    cond (eqb n 16) (one_of call_tests v)
    (cond (eqb n 17) (one_of truths v)
    (cond (eqb n 22) (is_string v)
    (strings_field v)))

-- whether field n is one of those
unfoldable pub by_kind : ℕ → Bool
by_kind n = (leb 16 n && ltb n 18) || (eqb n 22 || eqb n 24)

-- whether the value of field n has to hold particulars, which are judged by their own faults: 21, 23, and 10 where it is a location
unfoldable pub holds_particulars : Setting → ℕ → Bool
holds_particulars k n = eqb n 21 || (eqb n 23 || (eqb n 10 && eqb k.content content_location))

-- the rule of any other field n
unfoldable pub chain : Setting → ℕ → List ℕ → Bool
chain k n v =
    cond (eqb n 6) (via_rule v)
    (cond (eqb n 13) (ruled memo_rule v)
    (cond (by_kind n) (kind_rule n v)
    (freely (on_text k n) v)))
