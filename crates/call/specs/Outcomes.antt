-- What an answer changes (01 Events, the last paragraph): refusals, repeat and none nothing; freed all; every other acceptance the last time, and with a
-- new state its entry time. Cited by Requests, Responses, Ticks and Rule. Assumes nothing.
use Rattle.answers.specs.Answer.{accepted}
use Rattle.std.specs.Prelude.{ℕ, ◌-◌, Some, None, Err}
use Rattle.answers.specs.declared.State.{State}
use Rattle.answers.specs.declared.State.TheVariants.{Calling, Ringing, Answered, Talking, Ended, Cancelling}
use Rattle.answers.specs.declared.Word.{Word}
use Rattle.answers.specs.declared.Word.TheVariants.{Freed}
use Rattle.answers.specs.declared.Reason.{Reason}
use Rattle.answers.specs.declared.Waiting.{Waiting}
use Rattle.answers.specs.declared.Refusal.TheVariants.{Call as ruled}
use Rattle.call.specs.declared.records.Call.{Call}
use Rattle.call.specs.declared.records.After.TheVariants.{Same, Set, Free as gone}
use Rattle.call.specs.declared.records.Outcome.{Outcome}

-- refused: the record stays
abbrev pub refused : Reason → Waiting → Outcome
refused r w = record { answer = Err (ruled r w); after = Same }

-- repeat and none change nothing
abbrev pub unchanged : Word → Call → Outcome
unchanged w c = record { answer = accepted w (Some c.state); after = Same }

-- the call in a state, with a last time, an entry time and a chat time
abbrev pub with_times : State → ℕ → ℕ → ℕ → Call → Call
with_times s last entry chat c =
    record {
      state = s;
      secure = c.secure;
      invite = c.invite;
      caller = c.caller;
      callee = c.callee;
      last = last;
      entry = entry;
      chat = chat;
    }

-- every other acceptance but freed sets the last time
abbrev pub heard : ℕ → Call → Call
heard now c = with_times c.state now c.entry c.chat c

-- reaching 3 sets the chat time
abbrev pub chat_on_entering : State → ℕ → ℕ → ℕ
chat_on_entering Calling now old = old
chat_on_entering Ringing now old = old
chat_on_entering Answered now old = now
chat_on_entering Talking now old = old
chat_on_entering Ended now old = old
chat_on_entering Cancelling now old = old

-- a new state sets its entry time, and like every such acceptance the last time; reaching 3 sets the chat time
abbrev pub entered : State → ℕ → Call → Call
entered s now c = with_times s now now (chat_on_entering s now c.chat) c

-- accepted in the state it is in
abbrev pub stays : Word → ℕ → Call → Outcome
stays w now c = record { answer = accepted w (Some c.state); after = Set (heard now c) }

-- accepted, into state s
abbrev pub goes : Word → State → ℕ → Call → Outcome
goes w s now c = record { answer = accepted w (Some s); after = Set (entered s now c) }

-- freed shows 0
abbrev pub freed : Outcome
freed = record { answer = accepted Freed None; after = gone }

-- how long ago; 0 where it is yet to come
abbrev pub since : ℕ → ℕ → ℕ
since now then = now - then
