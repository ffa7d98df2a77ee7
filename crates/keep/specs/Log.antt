-- What the program does with a line of a log (01 Writing, the last paragraph). What it writes for the lines of a log, each in its turn on
-- one table, is `lines`' `Log.log_text` of this. Cited by the contracts of `src/`. Assumes nothing.
use Rattle.std.specs.Prelude.{ℕ, List, Err}
use Rattle.answers.specs.declared.Refusal.TheVariants.{Reading}
use Rattle.keeper.specs.Keeping.{Step, on_message, on_tick}
use Rattle.message.specs.Reading.{ample}
use Rattle.lines.specs.Program.{Said, answer_line, bad, bad_line, long, message, said, tick}
use Rattle.lines.specs.Log.{Effect}

-- an event's time as read, with its answer
abbrev pub step_done : List ℕ → Step → Effect (List ℕ)
step_done time s = record { text = answer_line time s.answer; held = s.table }

-- more than 32,768 bytes after the time's space are refused 2; a message is read at the program's ceiling (02 §9)
abbrev pub said_done : List ℕ → Said → Effect (List ℕ)
said_done t bad = record { text = bad_line; held = t }
said_done t (long time) = record { text = answer_line time (Err (Reading 2 0)); held = t }
said_done t (tick time v id) = step_done time (on_tick t v id)
said_done t (message time v s) = step_done time (on_message ample t v s)

-- what a line does
unfoldable pub line_done : List ℕ → List ℕ → Effect (List ℕ)
line_done t l = said_done t (said l)
