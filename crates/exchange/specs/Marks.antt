-- 'Both sides of the mark' (01), as one list over the definitions that the public contracts cite: those of the rules, of the reading and of
-- the rule of one call. Assumes nothing.
use Rattle.answers.specs.Answer.{Answer}
use Rattle.std.specs.Prelude.{ℕ, Bool, true, false, List, [], ◌∷◌, ◌≡◌, Some, Ok, Err}
use Rattle.call.specs.Rule.{decided}
use Rattle.answers.specs.declared.State.TheVariants.{Calling, Ended}
use Rattle.answers.specs.declared.State.{State}
use Rattle.call.specs.declared.events.Event.TheVariants.{Asks, Tick}
use Rattle.call.specs.declared.events.Event.{Event}
use Rattle.call.specs.declared.events.Method.TheVariants.{Callback}
use Rattle.call.specs.declared.events.Side.TheVariants.{Callee}
use Rattle.call.specs.declared.records.Call.{Call}
use Rattle.exchange.specs.Paper.{Paper, accepted, refused, paper_of}
use Rattle.message.specs.Reading.{ample, reading}
use Rattle.message.specs.Refusal.{Reading, number, place}
use Rattle.octets.specs.Ascii.{ascii}
use Rattle.rules.specs.Date.{date_rule}
use Rattle.rules.specs.Sequence.{sequence_rule}
use Rattle.rules.specs.Texts.{call_id_rule}

-- what a definition gives, and what the paper says: of a text and its rule, of a reading, of an event, in the paper's words and numbers
pub data Mark : Type 0 where
  judges : Bool → Bool → Mark
  reads : Reading → (number : ℕ) → (place : ℕ) → Mark
  answers-to : Answer → Paper → Mark

-- a reading is refused with this number and place
abbrev pub Says : Reading → ℕ → ℕ → Type 0
Says (Err e) n p = (number e ≡ n) × (place e ≡ p)
Says (Ok m) n p = ⊥

abbrev pub Holds : Mark → Type 0
Holds (judges a b) = a ≡ b
Holds (reads a n p) = Says a n p
Holds (answers-to a b) = paper_of a ≡ b

unfoldable pub Every : List Mark → Type 0
Every [] = Unit
Every (m ∷ ms) = Holds m × Every ms

-- a call that entered a state at a time, and was not heard of since
abbrev pub call_in : State → ℕ → Call
call_in s at =
    record {
      state = s;
      secure = false;
      invite = 1;
      caller = record { number = 1; method = 1 };
      callee = record { number = 0; method = 0 };
      last = at;
      entry = at;
      chat = at;
    }

-- a CALLBACK of the call's own parties
abbrev pub callback : Event
callback = Asks (record { method = Callback; number = 1; from = Callee; secure = false }) true

-- the paper's list, in its order; read at the program's ceiling (02 §9)
abbrev pub marks : List Mark
marks =
    judges (call_id_rule (ascii "A1")) true
    ∷ judges (call_id_rule (ascii "A.")) false
    ∷ judges (sequence_rule (ascii "4294967295 BYE")) true
    ∷ judges (sequence_rule (ascii "4294967296 BYE")) false
    ∷ judges (sequence_rule (ascii "01 BYE")) false
    ∷ judges (date_rule (ascii "2000-02-29T12:00:00+0900")) true
    ∷ judges (date_rule (ascii "1900-02-29T12:00:00+0900")) false
    ∷ reads (reading ample (ascii "[01]")) 4 2
    ∷ answers-to (decided (Some (call_in Calling 1000)) Tick 15999).answer (accepted (ascii "none") 1)
    ∷ answers-to (decided (Some (call_in Calling 1000)) Tick 16000).answer (accepted (ascii "timeout") 5)
    ∷ answers-to (decided (Some (call_in Ended 0)) callback 3600000).answer (accepted (ascii "pass") 5)
    ∷ answers-to (decided (Some (call_in Ended 0)) callback 3600001).answer (refused 26 0 404)
    ∷ []
