-- What the rule of one call is given: the numbers of a record, and the facts of a message. Cited by the contracts of `src/facts.rt`.
-- Assumes nothing.
use Rattle.std.specs.Prelude.{ℕ, eqb, Bool, true, false, cond}
use Rattle.answers.specs.Answer.{state_number}
use Rattle.answers.specs.declared.State.TheVariants.{Calling, Ringing, Answered, Talking, Ended, Cancelling}
use Rattle.answers.specs.declared.State.{State}
use Rattle.call.specs.declared.events.Event.TheVariants.{Asks, Replies}
use Rattle.call.specs.declared.events.Event.{Event}
use Rattle.call.specs.declared.events.Method.TheVariants.{Invite, Bye, Cancel, Ack, Message as Chat, Callback, Refer, Notify}
use Rattle.call.specs.declared.events.Method.{Method}
use Rattle.call.specs.declared.events.Side.TheVariants.{Caller, Callee}
use Rattle.call.specs.declared.events.Side.{Side}
use Rattle.call.specs.declared.records.Call.{Call}
use Rattle.message.specs.declared.facts.Message.{Message}
use Rattle.table.specs.declared.numbers.Fields.{Fields}
use Rattle.rules.specs.Numbers.{tag_request}

-- the state of a number: 1 Calling, 2 Ringing, 3 Answered, 4 Talking, 5 Ended, 6 Cancelling; a record in use has no other
unfoldable pub state_of : ℕ → State
state_of n =
    cond (eqb n 1) Calling
    (cond (eqb n 2) Ringing
    (cond (eqb n 3) Answered
    (cond (eqb n 4) Talking
    (cond (eqb n 5) Ended Cancelling))))

-- the method of a code: INVITE, BYE, CANCEL, ACK, MESSAGE, CALLBACK, REFER, NOTIFY are 1 to 8; a message that is read has no other
unfoldable pub method_of_code : ℕ → Method
method_of_code n =
    cond (eqb n 1) Invite
    (cond (eqb n 2) Bye
    (cond (eqb n 3) Cancel
    (cond (eqb n 4) Ack
    (cond (eqb n 5) Chat
    (cond (eqb n 6) Callback
    (cond (eqb n 7) Refer Notify))))))

-- the side that a message is from
abbrev pub side_of : Bool → Side
side_of true = Caller
side_of false = Callee

-- the numbers of a record in use, as a call
unfoldable pub call_of : Fields → Call
call_of f =
    record {
      state = state_of f.state;
      secure = eqb f.secure 1;
      invite = f.invite;
      caller = record { number = f.caller; method = f.callermethod };
      callee = record { number = f.callee; method = f.calleemethod };
      last = f.last;
      entry = f.entry;
      chat = f.chat;
    }

-- a call's numbers, as a record has them
unfoldable pub fields_from : Call → Fields
fields_from c =
    record {
      state = state_number c.state;
      secure = cond c.secure 1 0;
      invite = c.invite;
      caller = c.caller.number;
      callermethod = c.caller.method;
      callee = c.callee.number;
      calleemethod = c.callee.method;
      last = c.last;
      entry = c.entry;
      chat = c.chat;
    }

-- a request (tag 1) or a response, whose user and Fire-IDs are the record's or not
unfoldable pub event_of : Message → Bool → Event
event_of m agrees =
    cond (eqb m.tag tag_request)
    (Asks (record { method = method_of_code m.method; number = m.number; from = side_of m.caller; secure = m.secure }) agrees)
    (Replies (record { method = method_of_code m.method; number = m.number; from = side_of m.caller; status = m.status }) agrees)
