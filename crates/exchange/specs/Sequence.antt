-- Sequences of events on a lent table, and what demand 3 says of them, in the words of the keeper's public contracts. A run has
-- one ceiling of JSON values, c, the same for every event of it (02 §9). Assumes nothing.
use Rattle.std.specs.Prelude.{ℕ, ◌<◌, eqb, ltb, length, get_or, Bool, false, cond, List, [], ◌∷◌, ◌++◌, ◌≡◌, Option, Some, None, Ok, Err}
use Rattle.answers.specs.Answer.{Answer, refusal_number}
use Rattle.keeper.specs.Keeping.{Step, on_message, on_tick}
use Rattle.message.specs.Parties.{call_id_of}
use Rattle.message.specs.Reading.{reading}
use Rattle.message.specs.Refusal.{Reading}
use Rattle.rules.specs.Texts.{call_id_rule}
use Rattle.table.specs.Image.{record_at}
use Rattle.table.specs.Search.{place_named}

-- a time: any 64-bit number of milliseconds
pub record Time : Type 0 where
  pub milliseconds : ℕ
  pub fits : milliseconds < 18446744073709551616

-- an event is a message or a tick for a Call-ID, with a time (01 Events)
pub data Event : Type 0 where
  message : Time → List ℕ → Event
  tick : Time → List ℕ → Event

-- what the public entry does with it, under the run's ceiling of c values (a tick has no JSON)
abbrev pub event_step : ℕ → List ℕ → Event → Step
event_step c t (message now s) = on_message c t now.milliseconds s
event_step c t (tick now id) = on_tick t now.milliseconds id

abbrev pub event_answer : ℕ → List ℕ → Event → Answer
event_answer c t e = (event_step c t e).answer

abbrev pub event_table : ℕ → List ℕ → Event → List ℕ
event_table c t e = (event_step c t e).table

-- one event after the other, all under the one ceiling: the table at the end, and every answer
unfoldable pub after_all : ℕ → List ℕ → List Event → List ℕ
after_all c t [] = t
after_all c t (e ∷ es) = after_all c (event_table c t e) es

unfoldable pub answers : ℕ → List ℕ → List Event → List Answer
answers c t [] = []
answers c t (e ∷ es) = event_answer c t e ∷ answers c (event_table c t e) es

-- the Call-ID that an event names: that of a request or a response that is read, or a tick's, where it keeps the Call-ID rule; else none
abbrev pub name_read : List ℕ → Reading → Option (List ℕ)
name_read s (Err e) = None
name_read s (Ok m) = cond (ltb 2 m.tag) None (Some (call_id_of s m))

unfoldable pub name_of : ℕ → Event → Option (List ℕ)
name_of c (message now s) = name_read s (reading c s)
name_of c (tick now id) = cond (call_id_rule id) (Some id) None

-- two events do not name the same Call-ID
abbrev pub Apart : ℕ → Event → Event → Type 0
Apart c a b = (id : List ℕ) → name_of c a ≡ Some id → name_of c b ≡ Some id → ⊥

-- a call's record, as bytes, looked up by its Call-ID
abbrev pub record_in : List ℕ → Option ℕ → Option (List ℕ)
record_in t (Some k) = Some (record_at t k)
record_in t None = None

unfoldable pub record_named : List ℕ → List ℕ → Option (List ℕ)
record_named id t = record_in t (place_named id t)

-- an answer that is 'no room', number 27
abbrev pub is_no_room : Answer → Bool
is_no_room (Ok a) = false
is_no_room (Err f) = eqb (refusal_number f) 27

-- neither order answers 'no room' to either of the two
pub record Roomy (c : ℕ) (t : List ℕ) (a b : Event) : Type 0 where
  pub first-a : is_no_room (event_answer c t a) ≡ false
  pub then-b : is_no_room (event_answer c (event_table c t a) b) ≡ false
  pub first-b : is_no_room (event_answer c t b) ≡ false
  pub then-a : is_no_room (event_answer c (event_table c t b) a) ≡ false

-- what the exchange of a and b, after xs and before ys, leaves: every answer, and each call's final record
pub record Exchanged (c : ℕ) (t : List ℕ) (xs : List Event) (a b : Event) (ys : List Event) : Type 0 where
  pub before : List Answer
  pub to-a : Answer
  pub to-b : Answer
  pub behind : List Answer
  pub answers_ab : answers c t (xs ++ a ∷ b ∷ ys) ≡ before ++ to-a ∷ to-b ∷ behind
  pub answers_ba : answers c t (xs ++ b ∷ a ∷ ys) ≡ before ++ to-b ∷ to-a ∷ behind
  pub as_many : length before ≡ length xs
  pub records : (id : List ℕ) → record_named id (after_all c t (xs ++ a ∷ b ∷ ys)) ≡ record_named id (after_all c t (xs ++ b ∷ a ∷ ys))

-- a list of bytes, as every lent table is
pub record AllBytes (t : List ℕ) : Type 0 where
  pub each : (k : ℕ) → k < length t → get_or t k 0 < 256
