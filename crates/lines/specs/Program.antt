-- The program's lines (01 Writing, the last paragraph): what a line says and what is written for it. Cited by the contracts of
-- `src/reading.rt` and `src/answering.rt`. Assumes nothing.
use Prim.Native.Char.{code}
use Rattle.std.specs.Prelude.{ℕ, ◌+◌, ◌-◌, leb, ltb, length, take, drop, Bool, cond, List, [], ◌∷◌, ◌++◌, None, Option, Some, Result, Ok, Err}
use Rattle.answers.specs.Answer.{Answer, refusal_number, shown_of, spelling}
use Rattle.lines.specs.declared.answering.NoRoom.{NoRoom}
use Rattle.lines.specs.declared.reading.Line.TheVariants.{Bad, Long, Tick, Message}
use Rattle.lines.specs.declared.reading.Line.{Line}
use Rattle.octets.specs.Ascii.{ascii}
use Rattle.octets.specs.Decimal.{decimal_in, shown}
use Rattle.octets.specs.Splice.{splice}
use Rattle.octets.specs.Text.{before, stands_at}

-- how many bytes stand before the time's space
abbrev pub time_length : List ℕ → ℕ
time_length l = before (code " ") l

-- more than 32,768 bytes after the time's space: skipped, tick or not; `tick ` and a Call-ID; else a message
unfoldable pub timed : List ℕ → ℕ → Option ℕ → Line
timed l n None = Bad
timed l n (Some v) =
    cond (ltb 32768 (length l - (n + 1))) (Long n) (cond (stands_at l (n + 1) (ascii "tick ")) (Tick n v) (Message n v))

-- what a line is: bad without a 64-bit time of 1 to 20 digits and a space
unfoldable pub line_of : List ℕ → Line
line_of l = cond (ltb (time_length l) (length l)) (timed l (time_length l) (decimal_in (take (time_length l) l))) Bad

-- what a line says, with its bytes: the time as read and its number, and what follows
pub data Said : Type 0 where
  bad : Said
  long : (time : List ℕ) → Said
  tick : (time : List ℕ) → ℕ → (call_id : List ℕ) → Said
  message : (time : List ℕ) → ℕ → (text : List ℕ) → Said

unfoldable pub said_by : List ℕ → Line → Said
said_by l Bad = bad
said_by l (Long n) = long (take n l)
said_by l (Tick n v) = tick (take n l) v (drop (n + 6) l)
said_by l (Message n v) = message (take n l) v (drop (n + 1) l)

unfoldable pub said : List ℕ → Said
said l = said_by l (line_of l)

-- `WORD STATE`, or `refused N`
unfoldable pub answer_text : Answer → List ℕ
answer_text (Ok a) = spelling a.word ++ (code " " ∷ shown (shown_of a.state))
answer_text (Err r) = ascii "refused " ++ shown (refusal_number r)

-- the line that answers an event: its time as read, a space, the answer's text
unfoldable pub answer_line : List ℕ → Answer → List ℕ
answer_line time a = time ++ (code " " ∷ (answer_text a ++ (code "\n" ∷ [])))

-- the line that answers a line without a time
unfoldable pub bad_line : List ℕ
bad_line = ascii "bad" ++ (code "\n" ∷ [])

-- Writing at a place of a lent buffer: where there is no room, nothing is written.

-- whether w fits into o from at on
abbrev pub fits : List ℕ → ℕ → List ℕ → Bool
fits o at w = leb (at + length w) (length o)

-- the one value of `NoRoom`
abbrev pub no_room : NoRoom
no_room = record {}

-- the place behind the line, where there is room
unfoldable pub wrote_at : List ℕ → ℕ → List ℕ → Result ℕ NoRoom
wrote_at o at w = cond (fits o at w) (Ok (at + length w)) (Err no_room)

unfoldable pub after_writing : List ℕ → ℕ → List ℕ → List ℕ
after_writing o at w = cond (fits o at w) (splice o at w) o
