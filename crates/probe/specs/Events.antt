-- What `msg` and `tick` show, and the table that is held after them. Cited by the contracts of `src/events.rt`. Assumes nothing.
use Rattle.std.specs.Prelude.{ℕ, Bool, ◌&&◌, cond, List, ◌++◌, None, Option, Some, Ok, Err}
use Rattle.answers.specs.Answer.{Answer, refusal_number, refusal_place, refusal_reply}
use Rattle.keeper.specs.Keeping.{Step, on_message, on_tick}
use Rattle.lines.specs.Program.{answer_text}
use Rattle.lines.specs.Log.{Effect}
use Rattle.octets.specs.Ascii.{ascii}
use Rattle.octets.specs.Decimal.{shown}
use Rattle.probe.specs.Effect.{shows}
use Rattle.showing.specs.Shown.{unknown}
use Rattle.showing.specs.Words.{hex_bytes, first_word, has_space, is_bytes, numeral, rest}

-- `ok` before what the program of document 01 writes for an answer
unfoldable pub accepted_text : Answer → List ℕ
accepted_text a = ascii "ok " ++ (answer_text a ++ ascii "\n")

-- `ok WORD STATE`, or `no N PLACE REPLY`
unfoldable pub event_text : Answer → List ℕ
event_text (Ok a) = accepted_text (Ok a)
event_text (Err f) = ascii "no " ++ (shown (refusal_number f) ++ (ascii " " ++ (shown (refusal_place f) ++ (ascii " " ++ (shown (refusal_reply f) ++ ascii "\n")))))

-- a tick for the Call-ID s, or the message s under a ceiling of c
unfoldable pub event_on : ℕ → List ℕ → Bool → ℕ → List ℕ → Step
event_on c t tick time s = cond tick (on_tick t time s) (on_message c t time s)

-- an event's answer is shown
abbrev pub step_done : Step → Effect (List ℕ)
step_done e = record { text = event_text e.answer; held = e.table }

-- an event at the time that is spelt
abbrev pub event_at : ℕ → List ℕ → Bool → List ℕ → Option ℕ → Effect (List ℕ)
event_at c t tick s (Some time) = step_done (event_on c t tick time s)
event_at c t tick s None = shows t unknown

-- `msg TIME HEX` and `tick TIME HEX`
unfoldable pub event_done : ℕ → List ℕ → Bool → List ℕ → Effect (List ℕ)
event_done c t tick words =
    cond (has_space words && is_bytes (rest words))
    (event_at c t tick (hex_bytes (rest words)) (numeral (first_word words)))
    (shows t unknown)
