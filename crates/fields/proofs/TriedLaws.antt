-- The rules of the fields, of Via's members and of known words, which may all be tried on a text as it is spelled. Assumes nothing.
use Prim.Native.Nat.{ℕ}
use Rattle.values.proofs.SpelledLaws.{Tried, one_of_plain, plain_by, tried_any, tried_by, tried_front, tried_plain}
use Rattle.fields.specs.Field.{names_image}
use Rattle.values.specs.Value.{one_of}
use Rattle.fields.specs.Via.{hop_rule}
use Rattle.fields.specs.declared.judging.Setting.{Setting}
use Rattle.fields.specs.inner.Chain.{later_rule, on_body, on_status, on_text, on_type, plain_rule}
use Rattle.octets.specs.Class.{all}
use Rattle.rules.proofs.PlainLaws.{Plain, are_plain, call_id_plain, date-plain, desk_plain, destination_plain, fire-plain, host-plain}
use Rattle.rules.proofs.PlainLaws.{image-front, is_plain, language_plain, message_id_plain, organization_plain, status-front}
use Rattle.rules.specs.Address.{address_of, address_rule}
use Rattle.rules.specs.Names.{fields, hop_members, tags}
use Rattle.rules.specs.Numbers.{content_presence, content_text, method_message, tag_pong}
use Rattle.rules.specs.Sequence.{sequence_of, sequence_rule}
use Rattle.std.specs.Prelude.{None}
use Rattle.rules.specs.Words.{availabilities, call_modes, content_types, message_types, notify_types, presences, rescuees, services}
use lib.Dec.{eqb, ltb}
use mathlib.Core.Bool.{true, false}
use mathlib.Core.List.{List}
use mathlib.Core.Path.{◌≡◌, refl}
use native.Mathlib.Omega.{arith}

-- Words, each list by one test.

pub tag_words : are_plain tags ≡ true
unfolding are_plain all is_plain
tag_words = refl

pub member_words : are_plain hop_members ≡ true
unfolding are_plain all is_plain
member_words = refl

pub type_words : are_plain content_types ≡ true
unfolding are_plain all is_plain
type_words = refl

pub mode_words : are_plain call_modes ≡ true
unfolding are_plain all is_plain
mode_words = refl

pub rescuee_words : are_plain rescuees ≡ true
unfolding are_plain all is_plain
rescuee_words = refl

pub service_words : are_plain services ≡ true
unfolding are_plain all is_plain
service_words = refl

pub field_words : are_plain fields ≡ true
unfolding are_plain all is_plain
field_words = refl

-- Rules that let plain texts through alone.

pub availability_plain : Plain (one_of availabilities)
unfolding are_plain all is_plain
availability_plain = one_of_plain availabilities refl

pub message_type_plain : Plain (one_of message_types)
unfolding are_plain all is_plain
message_type_plain = one_of_plain message_types refl

pub notify_type_plain : Plain (one_of notify_types)
unfolding are_plain all is_plain
notify_type_plain = one_of_plain notify_types refl

pub presence_plain : Plain (one_of presences)
unfolding are_plain all is_plain
presence_plain = one_of_plain presences refl

pub call-mode-plain : Plain (one_of call_modes)
call-mode-plain = one_of_plain call_modes mode_words

pub rescuee_plain : Plain (one_of rescuees)
rescuee_plain = one_of_plain rescuees rescuee_words

pub service-plain : Plain (one_of services)
service-plain = one_of_plain services service_words

-- what breaks the rule tells nothing
pub broken-sequence : (t : List ℕ) → sequence_rule t ≡ false → sequence_of t ≡ None
unfolding sequence_of
broken-sequence t e = rw e

pub broken_address : (t : List ℕ) → address_rule t ≡ false → address_of t ≡ None
unfolding address_of
broken_address t e = rw e

pub hop-plain : (n : ℕ) → Plain (hop_rule n)
unfolding hop_rule
hop-plain n = plain_by (eqb n 1) host-plain (plain_by (eqb n 2) destination_plain organization_plain)

-- What is asked of the text of a field.

later_tried : (n : ℕ) → Tried (later_rule n)
unfolding later_rule
later_tried n =
    tried_by (ltb n 13) (tried_plain fire-plain)
    (tried_by (eqb n 14) (tried_plain call_id_plain)
    (tried_by (eqb n 15) (tried_plain call-mode-plain)
    (tried_by (eqb n 18) (tried_plain rescuee_plain)
    (tried_by (eqb n 19) (tried_plain service-plain)
    (tried_by (eqb n 20) (tried_plain language_plain) (tried_plain desk_plain))))))

plain_tried : (n : ℕ) → Tried (plain_rule n)
unfolding plain_rule
plain_tried n =
    tried_by (eqb n 4) (tried_plain date-plain)
    (tried_by (eqb n 5) (tried_plain call_id_plain)
    (tried_by (eqb n 8) (tried_plain message_id_plain) (later_tried n)))

status_tried : (tag : ℕ) → Tried (on_status tag)
unfolding on_status
status_tried tag = tried_by (eqb tag tag_pong) (tried_plain availability_plain) (tried_front status-front (omega arith))

type_tried : (method : ℕ) → Tried (on_type method)
unfolding on_type
type_tried method = tried_by (eqb method method_message) (tried_plain message_type_plain) (tried_plain notify_type_plain)

body_tried : (content : ℕ) → Tried (on_body content)
unfolding on_body
body_tried content =
    tried_by (eqb content content_text) tried_any
    (tried_by (names_image content) (tried_front image-front (omega arith))
    (tried_by (eqb content content_presence) (tried_plain presence_plain) (tried_front status-front (omega arith))))

pub text_tried : (k : Setting) (n : ℕ) → Tried (on_text k n)
unfolding on_text
text_tried k n =
    tried_by (eqb n 7) (status_tried k.tag)
    (tried_by (eqb n 9) (type_tried k.method)
    (tried_by (eqb n 10) (body_tried k.content) (plain_tried n)))
