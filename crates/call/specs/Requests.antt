-- Requests (01 Events, 'Requests'), in the paper's order: INVITE, ACK and CANCEL, BYE, MESSAGE, NOTIFY and REFER, CALLBACK; `request` goes by the method.
-- What each accepts changes the record as Outcomes says. Assumes nothing.
use Rattle.std.specs.Prelude.{ℕ, Bool, true, false, ◌&&◌, cond, eqb, leb, Result, Ok, Err}
use Rattle.answers.specs.declared.State.{State}
use Rattle.answers.specs.declared.State.TheVariants.{Calling, Ringing, Answered, Talking, Ended, Cancelling}
use Rattle.answers.specs.declared.Word.TheVariants.{Pass, Repeat}
use Rattle.answers.specs.declared.Reason.TheVariants.{WrongNumber, NotNow, NotSecure, TooLate}
use Rattle.answers.specs.declared.Waiting.TheVariants.{Nobody, Requester, CallbackRequester}
use Rattle.call.specs.declared.records.Highest.{Highest}
use Rattle.call.specs.declared.records.Call.{Call}
use Rattle.call.specs.declared.events.Method.{Method}
use Rattle.call.specs.declared.events.Method.TheVariants.{Invite, Bye, Cancel, Ack, Message, Callback, Refer, Notify}
use Rattle.call.specs.declared.events.Side.{Side}
use Rattle.call.specs.declared.events.Side.TheVariants.{Caller, Callee}
use Rattle.call.specs.declared.events.Request.{Request}
use Rattle.call.specs.declared.records.Outcome.{Outcome}
use Rattle.call.specs.Outcomes.{refused, unchanged, with_times, stays, goes, since}

-- INVITE, no record (which record it takes, and its texts, are the keeper's): state 1, Secure-Call from the message, INVITE number and
-- caller's highest its number, that method 1, the callee's highest and method 0, all three times now; pass
abbrev pub new_call : ℕ → Bool → ℕ → Call
new_call number secure now =
    record {
      state = Calling;
      secure = secure;
      invite = number;
      caller = record { number = number; method = 1 };
      callee = record { number = 0; method = 0 };
      last = now;
      entry = now;
      chat = now;
    }

-- INVITE, record there: same number repeat, else 24
unfoldable pub invite : Request → Call → Outcome
invite r c = cond (eqb r.number c.invite) (unchanged Repeat c) (refused NotNow Requester)

-- ACK: 3 to 4 pass; 4 repeat; else 24
abbrev pub ack_in : State → ℕ → Call → Outcome
ack_in Calling now c = refused NotNow Nobody
ack_in Ringing now c = refused NotNow Nobody
ack_in Answered now c = goes Pass Talking now c
ack_in Talking now c = unchanged Repeat c
ack_in Ended now c = refused NotNow Nobody
ack_in Cancelling now c = refused NotNow Nobody

-- ACK: number not the INVITE's, 23
unfoldable pub ack : Request → ℕ → Call → Outcome
ack r now c = cond (eqb r.number c.invite) (ack_in c.state now c) (refused WrongNumber Nobody)

-- CANCEL: 1 or 2 to 6 pass; else repeat
abbrev pub cancel_in : State → ℕ → Call → Outcome
cancel_in Calling now c = goes Pass Cancelling now c
cancel_in Ringing now c = goes Pass Cancelling now c
cancel_in Answered now c = unchanged Repeat c
cancel_in Talking now c = unchanged Repeat c
cancel_in Ended now c = unchanged Repeat c
cancel_in Cancelling now c = unchanged Repeat c

-- CANCEL: number not the INVITE's, 23
unfoldable pub cancel : Request → ℕ → Call → Outcome
cancel r now c = cond (eqb r.number c.invite) (cancel_in c.state now c) (refused WrongNumber Requester)

-- a side's highest number and its method
abbrev pub highest_of : Side → Call → Highest
highest_of Caller c = c.caller
highest_of Callee c = c.callee

-- the methods' codes, 1 to 8
abbrev pub method_code : Method → ℕ
method_code Invite = 1
method_code Bye = 2
method_code Cancel = 3
method_code Ack = 4
method_code Message = 5
method_code Callback = 6
method_code Refer = 7
method_code Notify = 8

-- pass sets that side's number and method
abbrev pub numbered : Side → ℕ → ℕ → Call → Call
numbered Caller number method c =
    record {
      state = c.state;
      secure = c.secure;
      invite = c.invite;
      caller = record { number = number; method = method };
      callee = c.callee;
      last = c.last;
      entry = c.entry;
      chat = c.chat;
    }
numbered Callee number method c =
    record {
      state = c.state;
      secure = c.secure;
      invite = c.invite;
      caller = c.caller;
      callee = record { number = number; method = method };
      last = c.last;
      entry = c.entry;
      chat = c.chat;
    }

-- a passed MESSAGE sets the chat time
abbrev pub chatted : ℕ → Call → Call
chatted now c = with_times c.state c.last c.entry now c

-- 3 or 4
abbrev pub in_talk : State → Bool
in_talk Calling = false
in_talk Ringing = false
in_talk Answered = true
in_talk Talking = true
in_talk Ended = false
in_talk Cancelling = false

-- BYE, MESSAGE, NOTIFY, REFER: number equal to that side's highest and same method, repeat; else not above it, 23; then state
-- not 3 or 4, 24; else it goes on with that side's number and method set
unfoldable pub admitted : Request → Call → Result Call Outcome
admitted r c =
    cond (eqb r.number (highest_of r.from c).number && eqb (method_code r.method) (highest_of r.from c).method) (Err (unchanged Repeat c))
    (cond (leb r.number (highest_of r.from c).number) (Err (refused WrongNumber Requester))
    (cond (in_talk c.state) (Ok (numbered r.from r.number (method_code r.method) c)) (Err (refused NotNow Requester))))

abbrev pub if_admitted : Result Call Outcome → (Call → Outcome) → Outcome
if_admitted (Err o) f = o
if_admitted (Ok c) f = f c

-- BYE goes to 5
unfoldable pub bye : Request → ℕ → Call → Outcome
bye r now c = if_admitted (admitted r c) (λ d. goes Pass Ended now d)

-- a passed MESSAGE sets the chat time
unfoldable pub message : Request → ℕ → Call → Outcome
message r now c = if_admitted (admitted r c) (λ d. stays Pass now (chatted now d))

unfoldable pub notify : Request → ℕ → Call → Outcome
notify r now c = if_admitted (admitted r c) (λ d. stays Pass now d)

-- REFER, not secure, 25
unfoldable pub refer : Request → ℕ → Call → Outcome
refer r now c = if_admitted (admitted r c) (λ d. cond d.secure (stays Pass now d) (refused NotSecure Requester))

-- CALLBACK: 5 and at most 3,600,000 ms since it was entered, pass; 5 later, 26; else 24. It sets no number
abbrev pub callback_in : State → ℕ → Call → Outcome
callback_in Calling now c = refused NotNow CallbackRequester
callback_in Ringing now c = refused NotNow CallbackRequester
callback_in Answered now c = refused NotNow CallbackRequester
callback_in Talking now c = refused NotNow CallbackRequester
callback_in Ended now c = cond (leb (since now c.entry) 3600000) (stays Pass now c) (refused TooLate CallbackRequester)
callback_in Cancelling now c = refused NotNow CallbackRequester

unfoldable pub request : Method → Request → ℕ → Call → Outcome
request Invite r now c = invite r c
request Bye r now c = bye r now c
request Cancel r now c = cancel r now c
request Ack r now c = ack r now c
request Message r now c = message r now c
request Callback r now c = callback_in c.state now c
request Refer r now c = refer r now c
request Notify r now c = notify r now c
