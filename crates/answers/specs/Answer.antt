-- The paper's words and numbers for each case of an answer (01 Events): word and state of an acceptance; number, place and reply of a refusal.
-- Assumes nothing.
use Rattle.std.specs.Prelude.{ℕ, Bool, true, false, List, Option, Result, Some, None, Ok, Err}
use Rattle.octets.specs.Ascii.{ascii}
use Rattle.answers.specs.declared.Accepted.{Accepted}
use Rattle.answers.specs.declared.Word.TheVariants.{Pass, Repeat, Bye, Timeout, Idle, Freed, None as nothing}
use Rattle.answers.specs.declared.Word.{Word}
use Rattle.answers.specs.declared.State.{State}
use Rattle.answers.specs.declared.State.TheVariants.{Calling, Ringing, Answered, Talking, Ended, Cancelling}
use Rattle.answers.specs.declared.Reason.{Reason}
use Rattle.answers.specs.declared.Reason.TheVariants.{NoCall, OtherParty, Earlier, WrongNumber, NotNow, NotSecure, TooLate, NoRoom}
use Rattle.answers.specs.declared.Waiting.{Waiting}
use Rattle.answers.specs.declared.Waiting.TheVariants.{Nobody, Requester, CallbackRequester}
use Rattle.answers.specs.declared.Refusal.{Refusal}
use Rattle.answers.specs.declared.Refusal.TheVariants.{Table, Reading, PingPong, Call}

-- an answer: accepted, or refused
abbrev pub Answer : Type 0
Answer = Result Accepted Refusal

abbrev pub accepted : Word → Option State → Answer
accepted w s = Ok (record { word = w; state = s })

-- 1 Calling, 2 Ringing, 3 Answered, 4 Talking, 5 Ended, 6 Cancelling
abbrev pub state_number : State → ℕ
state_number Calling = 1
state_number Ringing = 2
state_number Answered = 3
state_number Talking = 4
state_number Ended = 5
state_number Cancelling = 6

-- the state shown: freed shows 0
abbrev pub shown_of : Option State → ℕ
shown_of (Some s) = state_number s
shown_of None = 0

-- the words of an acceptance
abbrev pub spelling : Word → List ℕ
spelling Pass = ascii "pass"
spelling Repeat = ascii "repeat"
spelling Bye = ascii "bye"
spelling Timeout = ascii "timeout"
spelling Idle = ascii "idle"
spelling Freed = ascii "freed"
spelling nothing = ascii "none"

-- the reason's number
abbrev pub reason_number : Reason → ℕ
reason_number NoCall = 20
reason_number OtherParty = 21
reason_number Earlier = 22
reason_number WrongNumber = 23
reason_number NotNow = 24
reason_number NotSecure = 25
reason_number TooLate = 26
reason_number NoRoom = 27

-- the reply of a reason, where that of 20 is n
abbrev pub reason_reply : ℕ → Reason → ℕ
reason_reply n NoCall = n
reason_reply n OtherParty = 481
reason_reply n Earlier = 500
reason_reply n WrongNumber = 500
reason_reply n NotNow = 400
reason_reply n NotSecure = 405
reason_reply n TooLate = 404
reason_reply n NoRoom = 486

-- 20 has 481, for a CALLBACK 404; responses, ticks and ACK always have reply 0
abbrev pub waiting_reply : Waiting → Reason → ℕ
waiting_reply Nobody r = 0
waiting_reply Requester r = reason_reply 481 r
waiting_reply CallbackRequester r = reason_reply 404 r

-- a refusal's number, place and reply; the place is 0 but for 2 to 11
abbrev pub refusal_number : Refusal → ℕ
refusal_number Table = 1
refusal_number (Reading n p) = n
refusal_number PingPong = 28
refusal_number (Call r w) = reason_number r

abbrev pub refusal_place : Refusal → ℕ
refusal_place Table = 0
refusal_place (Reading n p) = p
refusal_place PingPong = 0
refusal_place (Call r w) = 0

abbrev pub refusal_reply : Refusal → ℕ
refusal_reply Table = 0
refusal_reply (Reading n p) = 0
refusal_reply PingPong = 0
refusal_reply (Call r w) = waiting_reply w r

-- refusals change nothing, and repeat and none change nothing
abbrev pub quiet_word : Word → Bool
quiet_word Pass = false
quiet_word Repeat = true
quiet_word Bye = false
quiet_word Timeout = false
quiet_word Idle = false
quiet_word Freed = false
quiet_word nothing = true

abbrev pub is_quiet : Answer → Bool
is_quiet (Ok a) = quiet_word a.word
is_quiet (Err f) = true
