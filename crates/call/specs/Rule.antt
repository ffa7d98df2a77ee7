-- The rule of one call (01 Events): its record or none, an event and the time, to an answer and what becomes of the record.
-- The checks in the order of the paper's table, of which the first that fails answers, and what says each:
--
--   1, 2 to 11, 28   the table, the reading, a ping or pong   the keeper, before this rule (`on_message`, `on_tick`)
--   20               no such call (an INVITE request aside)   `decided`, where there is no record: `decided_unheld`, `request_unheld`
--   21               user or a Fire-ID differs                `first_checks`
--   22               time below the last time                 `first_checks`; then what Requests, Responses or Ticks say of the event:
--   23               number wrong                             `ack`, `cancel`, `admitted`; `to_invite`, `to_within`, `to_inviting`
--   24               not legal in this state                  `invite`, `ack_in`, `admitted`, `callback_in`; `progress`, `failure`, `response_in`, `to_callback`
--   25               REFER, not secure                        `refer`
--   26               CALLBACK after the hour                  `callback_in`
--   27               a new INVITE and no record free          the keeper, where `request_unheld` opens a call (`taken_at`)
--
-- Below stand 20, then 21 and 22, then the rule whole. Assumes nothing.
use Rattle.answers.specs.Answer.{accepted}
use Rattle.std.specs.Prelude.{ℕ, Bool, true, cond, ltb, Option, Some, None}
use Rattle.answers.specs.declared.State.TheVariants.{Calling}
use Rattle.answers.specs.declared.Word.TheVariants.{Pass}
use Rattle.answers.specs.declared.Reason.TheVariants.{NoCall, OtherParty, Earlier}
use Rattle.answers.specs.declared.Waiting.{Waiting}
use Rattle.answers.specs.declared.Waiting.TheVariants.{Nobody, Requester, CallbackRequester}
use Rattle.call.specs.declared.records.Call.{Call}
use Rattle.call.specs.declared.records.After.TheVariants.{Set}
use Rattle.call.specs.declared.events.Method.{Method}
use Rattle.call.specs.declared.events.Method.TheVariants.{Invite, Bye, Cancel, Ack, Message, Callback, Refer, Notify}
use Rattle.call.specs.declared.events.Request.{Request}
use Rattle.call.specs.declared.events.Event.{Event}
use Rattle.call.specs.declared.events.Event.TheVariants.{Asks, Replies, Tick}
use Rattle.call.specs.declared.records.Outcome.{Outcome}
use Rattle.call.specs.Outcomes.{refused}
use Rattle.call.specs.Requests.{new_call, request}
use Rattle.call.specs.Responses.{response}
use Rattle.call.specs.Ticks.{tick_in}

-- who waits for the reply to a request: nobody to an ACK, as to responses and ticks
abbrev pub waiting : Method → Waiting
waiting Invite = Requester
waiting Bye = Requester
waiting Cancel = Requester
waiting Ack = Nobody
waiting Message = Requester
waiting Callback = CallbackRequester
waiting Refer = Requester
waiting Notify = Requester

-- 20: no such call, an INVITE request aside (where no record is free the keeper answers it by 27 instead)
abbrev pub request_unheld : Method → Request → ℕ → Outcome
request_unheld Invite r now = record { answer = accepted Pass (Some Calling); after = Set (new_call r.number r.secure now) }
request_unheld Bye r now = refused NoCall Requester
request_unheld Cancel r now = refused NoCall Requester
request_unheld Ack r now = refused NoCall Nobody
request_unheld Message r now = refused NoCall Requester
request_unheld Callback r now = refused NoCall CallbackRequester
request_unheld Refer r now = refused NoCall Requester
request_unheld Notify r now = refused NoCall Requester

unfoldable pub decided_unheld : Event → ℕ → Outcome
decided_unheld (Asks r agrees) now = request_unheld r.method r now
decided_unheld (Replies r agrees) now = refused NoCall Nobody
decided_unheld Tick now = refused NoCall Nobody

-- 21: user or a Fire-ID differs from the record (agrees says that all are the record's); 22: time below the last time; then what o says
abbrev pub first_checks : Bool → Waiting → ℕ → Call → Outcome → Outcome
first_checks agrees w now c o = cond agrees (cond (ltb now c.last) (refused Earlier w) o) (refused OtherParty w)

unfoldable pub decided_held : Event → ℕ → Call → Outcome
decided_held (Asks r agrees) now c = first_checks agrees (waiting r.method) now c (request r.method r now c)
decided_held (Replies r agrees) now c = first_checks agrees Nobody now c (response r.method r now c)
decided_held Tick now c = first_checks true Nobody now c (tick_in c.state now c)

-- what is answered to an event on a call's record, or on none, and what becomes of it
abbrev pub decided : Option Call → Event → ℕ → Outcome
decided None e now = decided_unheld e now
decided (Some c) e now = decided_held e now c
