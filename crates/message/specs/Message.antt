-- What is read of a message (01 Reading): facts, each a function of the text s and of the places t of its known fields; and row 10, where
-- fields disagree. Assumes nothing.
use Rattle.std.specs.Prelude.{ℕ, ◌+◌, eqb, get_or, Bool, true, false, not, ◌&&◌, ◌||◌, cond, List, Option, Some, None}
use Rattle.json_text.specs.Places.{bytes}
use Rattle.fields.specs.Trail.{no_trail, trail_in, moved}
use Rattle.escapes.specs.Rfc7159.{spells}
use Rattle.values.specs.Spans.{spelling_at, text_at, nowhere, spelling_span}
use Rattle.values.specs.Value.{word_spelled}
use Rattle.message.specs.declared.facts.Message.{Message}
use Rattle.values.specs.declared.spans.Span.{Span}
use Rattle.fields.specs.declared.judging.Setting.{Setting}
use Rattle.rules.specs.Address.{address_of}
use Rattle.octets.specs.Ascii.{ascii}
use Rattle.octets.specs.Text.{same}
use Rattle.rules.specs.Numbers.{content_text, field_cseq, field_call_id, field_call_mode, field_content_type, field_from, field_request_service, field_rescuee, field_secure_call}
use Rattle.rules.specs.Numbers.{field_status}
use Rattle.rules.specs.Numbers.{field_to}
use Rattle.rules.specs.Numbers.{field_via, method_ack, method_callback, method_cancel, method_invite, method_message, method_notify, method_refer, tag_request, tag_response}
use Rattle.rules.specs.Sequence.{sequence_of}
use Rattle.rules.specs.Status.{status_of}
use Rattle.rules.specs.Words.{call_modes, content_types, rescuees, services}
use Rattle.rules.specs.declared.addresses.Address.TheVariants as addresses
use Rattle.rules.specs.declared.addresses.Address.{Address}
use Rattle.rules.specs.declared.sequences.Sequence.{Sequence}

-- the text of field n
abbrev pub field_text : List ℕ → List ℕ → ℕ → List ℕ
field_text s t n = text_at s (get_or t n 0)

-- number and method of CSeq
abbrev pub number_in : Option Sequence → ℕ
number_in (Some q) = q.number
number_in None = 0

abbrev pub method_in : Option Sequence → ℕ
method_in (Some q) = q.method
method_in None = 0

-- whether an address is a caller's
abbrev pub caller_in : Option Address → Bool
caller_in (Some (addresses.Caller u f)) = true
caller_in (Some (addresses.Callee f)) = false
caller_in None = false

-- the code of Status
abbrev pub code_in : Option ℕ → ℕ
code_in (Some n) = n
code_in None = 0

unfoldable pub number_of : List ℕ → List ℕ → ℕ
number_of s t = number_in (sequence_of (field_text s t field_cseq))

unfoldable pub method_of : List ℕ → List ℕ → ℕ
method_of s t = method_in (sequence_of (field_text s t field_cseq))

unfoldable pub from_caller : List ℕ → List ℕ → Bool
from_caller s t = caller_in (address_of (field_text s t field_from))

unfoldable pub to_caller : List ℕ → List ℕ → Bool
to_caller s t = caller_in (address_of (field_text s t field_to))

-- the number among these words of what the value at v tells, 0 where there is none
unfoldable pub word_at : List (List ℕ) → List ℕ → ℕ → ℕ
word_at ws s v = cond (eqb v 0) 0 (word_spelled ws (spelling_at s v))

-- the code of the Status at v, of a response; a request has none
unfoldable pub code_of : List ℕ → ℕ → ℕ → ℕ
code_of s tag v = cond (eqb tag tag_response) (code_in (status_of (text_at s v))) 0

-- the Secure-Call at v, of an INVITE request
unfoldable pub secure_of : List ℕ → Setting → ℕ → Bool
secure_of s k v = (eqb k.tag tag_request && eqb k.method method_invite) && same (bytes s v) (ascii "true")

-- what the rules see besides their value on the run of the tag: nothing but the tag yet
abbrev pub first_setting : ℕ → Setting
first_setting tag = record { tag = tag; method = 0; content = 0; mode = 0; rescuee = 0; service = 0 }

-- what the rules of a request or a response see on the run of its method
unfoldable pub setting_of : List ℕ → ℕ → List ℕ → Setting
setting_of s tag t =
    record {
      tag = tag;
      method = method_of s t;
      content = word_at content_types s (get_or t field_content_type 0);
      mode = word_at call_modes s (get_or t field_call_mode 0);
      rescuee = word_at rescuees s (get_or t field_rescuee 0);
      service = word_at services s (get_or t field_request_service 0);
    }

-- Row 10.

-- From and To on the same side
unfoldable pub same_side : Bool → Bool → Bool
same_side from to = (from && to) || (not from && not to)

-- INVITE, CANCEL, ACK, NOTIFY not from a caller; CALLBACK, REFER not from a callee
unfoldable pub wrong_side : ℕ → Bool → Bool
wrong_side m from =
    ((eqb m method_invite || (eqb m method_cancel || (eqb m method_ack || eqb m method_notify))) && not from)
    || ((eqb m method_callback || eqb m method_refer) && from)

-- CALLBACK numbered other than 1
unfoldable pub wrong_number : ℕ → ℕ → Bool
wrong_number m n = eqb m method_callback && not (eqb n 1)

-- what binds requests and responses: the sides, and CALLBACK's 1
unfoldable pub sides_disagree : ℕ → ℕ → Bool → Bool → Bool
sides_disagree m n from to = same_side from to || (wrong_side m from || wrong_number m n)

-- the Request-Service at v is `callback`, and the Call-Mode at w `training`
unfoldable pub callback_training : List ℕ → ℕ → ℕ → Bool
callback_training s v w = spells (spelling_at s v) (ascii "callback") && spells (spelling_at s w) (ascii "training")

-- what only a request can have: an INVITE with these two; a callee's MESSAGE not `text/plain`
unfoldable pub request_disagrees : List ℕ → Setting → List ℕ → Bool → Bool
request_disagrees s k t from =
    (eqb k.method method_invite && callback_training s (get_or t field_request_service 0) (get_or t field_call_mode 0))
    || (eqb k.method method_message && (not from && not (eqb k.content content_text)))

-- what only a response can have: status 202 outside REFER
unfoldable pub response_disagrees : ℕ → ℕ → Bool
response_disagrees code m = eqb code 202 && not (eqb m method_refer)

-- fields disagree
unfoldable pub disagrees : List ℕ → Setting → List ℕ → Bool
disagrees s k t =
    sides_disagree k.method (number_of s t) (from_caller s t) (to_caller s t)
    || ((eqb k.tag tag_request && request_disagrees s k t (from_caller s t))
    || (eqb k.tag tag_response && response_disagrees (code_of s k.tag (get_or t field_status 0)) k.method))

-- Where the texts stand that name the parties.

-- the user, the caller's Fire-ID and the callee's, in the text of an address; nowhere in an address of the other side
abbrev pub user_span : Option Address → Span
user_span (Some (addresses.Caller user fire)) = record { start = 7; end = user }
user_span (Some (addresses.Callee fire)) = nowhere
user_span None = nowhere

abbrev pub caller_span : Option Address → Span
caller_span (Some (addresses.Caller user fire)) = record { start = user + 1; end = fire }
caller_span (Some (addresses.Callee fire)) = nowhere
caller_span None = nowhere

abbrev pub callee_span : Option Address → Span
callee_span (Some (addresses.Caller user fire)) = nowhere
callee_span (Some (addresses.Callee fire)) = record { start = 12; end = fire }
callee_span None = nowhere

-- where the caller's address stands, From if the message is from a caller, else To; and the callee's, the other one
unfoldable pub caller_place : Bool → List ℕ → ℕ
caller_place from t = cond from (get_or t field_from 0) (get_or t field_to 0)

unfoldable pub callee_place : Bool → List ℕ → ℕ
callee_place from t = cond from (get_or t field_to 0) (get_or t field_from 0)

-- The message: the facts that the keeper and the writer go by, the places of the five values that a reply copies, where the Call-ID and the two
-- addresses are spelled, and the trail, all by places of the message; and by places of the addresses' texts the user and the Fire-IDs.

unfoldable pub message_of : List ℕ → Setting → List ℕ → Message
message_of s k t =
    record {
      tag = k.tag;
      method = k.method;
      number = number_of s t;
      status = code_of s k.tag (get_or t field_status 0);
      caller = from_caller s t;
      secure = secure_of s k (get_or t field_secure_call 0);
      cseq = get_or t field_cseq 0;
      to = get_or t field_to 0;
      from = get_or t field_from 0;
      call = get_or t field_call_id 0;
      via = get_or t field_via 0;
      callid = spelling_span s (get_or t field_call_id 0);
      calleraddress = spelling_span s (caller_place (from_caller s t) t);
      calleeaddress = spelling_span s (callee_place (from_caller s t) t);
      user = user_span (address_of (text_at s (caller_place (from_caller s t) t)));
      callerfire = caller_span (address_of (text_at s (caller_place (from_caller s t) t)));
      calleefire = callee_span (address_of (text_at s (callee_place (from_caller s t) t)));
      trail = moved (get_or t field_via 0) (trail_in (bytes s (get_or t field_via 0)));
    }

-- a ping or a pong
unfoldable pub probe_of : ℕ → Message
probe_of tag =
    record {
      tag = tag;
      method = 0;
      number = 0;
      status = 0;
      caller = false;
      secure = false;
      cseq = 0;
      to = 0;
      from = 0;
      call = 0;
      via = 0;
      callid = nowhere;
      calleraddress = nowhere;
      calleeaddress = nowhere;
      user = nowhere;
      callerfire = nowhere;
      calleefire = nowhere;
      trail = no_trail;
    }
