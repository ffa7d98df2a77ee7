-- Marks of the rule of one call (01 Events), computed from its definition; Calling's 15,000 ms and CALLBACK's hour stand in crate `exchange`, among
-- document 01's own ('Both sides of the mark'). Assumes nothing.
use Rattle.std.specs.Prelude.{Some, None}
use Rattle.call.specs.Responses.{response, to_invite}
use Rattle.call.specs.Requests.{admitted, message, request}
use Prim.Native.Nat.{ℕ}
use Rattle.answers.specs.Answer.{Answer, accepted, refusal_number, refusal_reply}
use Rattle.call.specs.Rule.{decided, decided_held, waiting}
use Rattle.answers.specs.declared.Reason.TheVariants.{Earlier, NoCall, NoRoom, NotNow, NotSecure, OtherParty, TooLate, WrongNumber}
use Rattle.answers.specs.declared.Refusal.TheVariants.{Call as ruled, PingPong, Table}
use Rattle.answers.specs.declared.Refusal.{Refusal}
use Rattle.answers.specs.declared.State.TheVariants.{Answered, Calling, Cancelling, Ended, Ringing, Talking}
use Rattle.answers.specs.declared.State.{State}
use Rattle.answers.specs.declared.Waiting.TheVariants.{CallbackRequester, Requester}
use Rattle.answers.specs.declared.Word.TheVariants.{Freed, Idle, None as nothing, Pass, Timeout}
use Rattle.call.specs.declared.events.Event.TheVariants.{Asks, Replies, Tick}
use Rattle.call.specs.declared.events.Method.TheVariants.{Ack, Callback, Invite, Message}
use Rattle.call.specs.declared.events.Side.TheVariants.{Callee, Caller}
use Rattle.call.specs.declared.records.After.TheVariants.{Set}
use Rattle.call.specs.declared.records.Call.{Call}
use Rattle.call.specs.declared.records.Highest.{Highest}
use mathlib.Core.Bool.{false, true}
use mathlib.Core.Path.{◌≡◌, refl}

-- a call that entered a state at 1000; its INVITE is 1, and its callee's highest number, its last time and its chat time are as given
abbrev call_in : State → Highest → ℕ → ℕ → Call
call_in s callee last chat =
    record {
      state = s;
      secure = false;
      invite = 1;
      caller = record { number = 1; method = 1 };
      callee = callee;
      last = last;
      entry = 1000;
      chat = chat;
    }

abbrev nobody : Highest
nobody = record { number = 0; method = 0 }

-- 1xx in 1, pass: a 100 sets the last time alone, and the 15 seconds go on
pub hundred_starts-nothing :
    decided (Some (call_in Calling nobody 1000 1000)) (Replies (record { method = Invite; number = 1; from = Caller; status = 100 }) true) 2000
    ≡ record { answer = accepted Pass (Some Calling); after = Set (call_in Calling nobody 2000 1000) }
unfolding decided_held response to_invite
hundred_starts-nothing = refl

-- CALLBACK sets no number: the callee has none afterwards
pub callback_sets_no-number :
    decided (Some (call_in Ended nobody 1000 1000)) (Asks (record { method = Callback; number = 1; from = Callee; secure = false }) true) 2000
    ≡ record { answer = accepted Pass (Some Ended); after = Set (call_in Ended nobody 2000 1000) }
unfolding decided_held request
callback_sets_no-number = refl

-- a passed MESSAGE sets that side's number and method, and the chat time
pub message_sets_chat-time :
    decided (Some (call_in Talking nobody 1000 1000)) (Asks (record { method = Message; number = 7; from = Callee; secure = false }) true) 2000
    ≡ record { answer = accepted Pass (Some Talking); after = Set (call_in Talking (record { number = 7; method = 5 }) 2000 2000) }
unfolding decided_held request message admitted
message_sets_chat-time = refl

-- a tick for a call that entered its state, and chatted, at 1000
abbrev tick_at : State → ℕ → Answer
tick_at s now = (decided (Some (call_in s nobody 1000 1000)) Tick now).answer

-- 6 at 15,000 ms, 2 at 150,000, 3 and 4 at 1,800,000; 5 after more than 3,600,000
pub limits :
    (tick_at Cancelling 15999 ≡ accepted nothing (Some Cancelling))
    × (tick_at Cancelling 16000 ≡ accepted Timeout (Some Ended))
    × (tick_at Ringing 150999 ≡ accepted nothing (Some Ringing))
    × (tick_at Ringing 151000 ≡ accepted Timeout (Some Ended))
    × (tick_at Answered 1800999 ≡ accepted nothing (Some Answered))
    × (tick_at Answered 1801000 ≡ accepted Idle (Some Ended))
    × (tick_at Talking 1800999 ≡ accepted nothing (Some Talking))
    × (tick_at Talking 1801000 ≡ accepted Idle (Some Ended))
    × (tick_at Ended 3601000 ≡ accepted nothing (Some Ended))
    × (tick_at Ended 3601001 ≡ accepted Freed None)
unfolding decided_held
limits = (refl, refl, refl, refl, refl, refl, refl, refl, refl, refl)

-- a refusal has this number, and this reply
abbrev Numbered : Refusal → ℕ → ℕ → Type 0
Numbered f number reply = (refusal_number f ≡ number) × (refusal_reply f ≡ reply)

-- the table of numbers and replies, but for what is read; ACK always has reply 0
pub numbers :
    Numbered Table 1 0
    × Numbered PingPong 28 0
    × Numbered (ruled NoCall Requester) 20 481
    × Numbered (ruled NoCall CallbackRequester) 20 404
    × Numbered (ruled OtherParty Requester) 21 481
    × Numbered (ruled Earlier Requester) 22 500
    × Numbered (ruled WrongNumber Requester) 23 500
    × Numbered (ruled NotNow Requester) 24 400
    × Numbered (ruled NotSecure Requester) 25 405
    × Numbered (ruled TooLate CallbackRequester) 26 404
    × Numbered (ruled NoRoom Requester) 27 486
    × Numbered (ruled NotNow (waiting Ack)) 24 0
numbers = (
  (refl, refl),
  (refl, refl),
  (refl, refl),
  (refl, refl),
  (refl, refl),
  (refl, refl),
  (refl, refl),
  (refl, refl),
  (refl, refl),
  (refl, refl),
  (refl, refl),
  (refl, refl),
)
