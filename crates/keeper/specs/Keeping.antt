-- What an event does to the table (01 Events): checks 1, then the reading's 2 to 11 under a ceiling of JSON values (02 §9), then 28, then the rule of the
-- call that is named, and 27. The public contracts cite `on_message` and `on_tick`, those of `src/steps.rt` the definitions on the way there too.
-- Assumes nothing.
use Rattle.answers.specs.Answer.{Answer}
use Rattle.std.specs.Prelude.{ℕ, ltb, Bool, false, cond, List, Option, Some, None, Err, Ok}
use Rattle.call.specs.Rule.{decided}
use Rattle.answers.specs.declared.Reason.TheVariants.{NoRoom}
use Rattle.answers.specs.declared.Refusal.TheVariants.{Table, Reading as Unread, PingPong, Call as Ruled}
use Rattle.answers.specs.declared.Refusal.{Refusal}
use Rattle.answers.specs.declared.Waiting.TheVariants.{Requester}
use Rattle.call.specs.declared.events.Event.TheVariants.{Tick}
use Rattle.call.specs.declared.records.After.TheVariants.{Same, Set, Free}
use Rattle.call.specs.declared.records.After.{After}
use Rattle.call.specs.declared.records.Call.{Call}
use Rattle.call.specs.declared.records.Outcome.{Outcome}
use Rattle.keeper.specs.Facts.{call_of, fields_from, event_of}
use Rattle.message.specs.Parties.{call_id_of, user_of, caller_fire_of, callee_fire_of}
use Rattle.message.specs.Reading.{reading}
use Rattle.message.specs.declared.facts.Message.{Message}
use Rattle.message.specs.Refusal.{Reading, number, place}
use Rattle.rules.specs.Texts.{call_id_rule}
use Rattle.table.specs.Image.{record_at, with_record, free_record}
use Rattle.table.specs.Record.{record_fields, with_fields, new_record, same_parties}
use Rattle.table.specs.Search.{place_named, free_place}
use Rattle.table.specs.WellFormed.{well_formed}

-- the answer to an event, and the table after it
pub record Step : Type 0 where
  pub answer : Answer
  pub table : List ℕ

-- refused: the table as it was
abbrev pub refusal : List ℕ → Refusal → Step
refusal t f = record { answer = Err f; table = t }

-- the table after an event whose call has record k: as it was; with that record's numbers set; with that record free, all 00
abbrev pub table_after : List ℕ → ℕ → After → List ℕ
table_after t k Same = t
table_after t k (Set c) = with_record t k (with_fields (record_at t k) (fields_from c))
table_after t k Free = with_record t k free_record

abbrev pub step_of : List ℕ → ℕ → Outcome → Step
step_of t k o = record { answer = o.answer; table = table_after t k o.after }

-- the call of record k
abbrev pub call_at : List ℕ → ℕ → Call
call_at t k = call_of (record_fields (record_at t k))

-- the record that a new call of the message m takes: the lowest free one, whatever m says; where there is none, it is not admitted
abbrev pub room_for : List ℕ → Message → Option ℕ
room_for t m = free_place t

-- the record of a new call: texts from the message
unfoldable pub record_for : List ℕ → Message → Call → List ℕ
record_for s m c = new_record (call_id_of s m) (user_of s m) (caller_fire_of s m) (callee_fire_of s m) (fields_from c)

-- a new INVITE: 27 where no record is free
abbrev pub taken_at : List ℕ → List ℕ → Message → Answer → Call → Option ℕ → Step
taken_at t s m a c (Some k) = record { answer = a; table = with_record t k (record_for s m c) }
taken_at t s m a c None = refusal t (Ruled NoRoom Requester)

-- a message that names no call on record: the rule opens one for it, or leaves all as it was (it frees none)
abbrev pub taken : List ℕ → List ℕ → Message → Answer → After → Step
taken t s m a Same = record { answer = a; table = t }
taken t s m a (Set c) = taken_at t s m a c (room_for t m)
taken t s m a Free = record { answer = a; table = t }

-- user and both Fire-IDs of a message are those of record k
abbrev pub agrees_at : List ℕ → List ℕ → Message → ℕ → Bool
agrees_at t s m k = same_parties (user_of s m) (caller_fire_of s m) (callee_fire_of s m) (record_at t k)

-- a request or a response, by where its call's record is
abbrev pub asked_at : List ℕ → ℕ → List ℕ → Message → Option ℕ → Step
asked_at t now s m (Some k) = step_of t k (decided (Some (call_at t k)) (event_of m (agrees_at t s m k)) now)
asked_at t now s m None = taken t s m (decided None (event_of m false) now).answer (decided None (event_of m false) now).after

-- 28: a ping or pong; then the rule
abbrev pub on_reading : List ℕ → ℕ → List ℕ → Reading → Step
on_reading t now s (Err e) = refusal t (Unread (number e) (place e))
on_reading t now s (Ok m) = cond (ltb 2 m.tag) (refusal t PingPong) (asked_at t now s m (place_named (call_id_of s m) t))

-- a message under a ceiling of c values: 1, table not well-formed; 2 to 11, as read; and on
unfoldable pub on_message : ℕ → List ℕ → ℕ → List ℕ → Step
on_message c t now s = cond (well_formed t) (on_reading t now s (reading c s)) (refusal t Table)

-- a tick, by where its call's record is
abbrev pub ticked_at : List ℕ → ℕ → Option ℕ → Step
ticked_at t now (Some k) = step_of t k (decided (Some (call_at t k)) Tick now)
ticked_at t now None = record { answer = (decided None Tick now).answer; table = t }

-- a tick for a Call-ID: 1; 9 at 0 for a bad Call-ID; and on
unfoldable pub on_tick : List ℕ → ℕ → List ℕ → Step
on_tick t now id =
    cond (well_formed t) (cond (call_id_rule id) (ticked_at t now (place_named id t)) (refusal t (Unread 9 0))) (refusal t Table)
