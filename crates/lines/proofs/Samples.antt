-- Lines and answers as a person would write them, computed by the definitions. Assumes nothing.
use Rattle.answers.specs.Answer.{accepted}
use Rattle.std.specs.Prelude.{Some, None, Err}
use Rattle.answers.specs.declared.Reason.TheVariants.{NoCall}
use Rattle.answers.specs.declared.Refusal.TheVariants.{Call}
use Rattle.answers.specs.declared.State.TheVariants.{Cancelling}
use Rattle.answers.specs.declared.Waiting.TheVariants.{Nobody}
use Rattle.answers.specs.declared.Word.TheVariants.{Freed, Repeat}
use Rattle.lines.specs.Input.{ended_lines, last_line, lines_of, open_line}
use Rattle.lines.specs.Program.{answer_line, bad, line_of, message, said, said_by, answer_text, tick, timed}
use Rattle.lines.specs.declared.reading.Line.TheVariants.{Long, Message, Tick}
use Rattle.octets.specs.Ascii.{ascii}
use Rattle.octets.specs.Class.{all, among, is_digit}
use Rattle.octets.specs.Decimal.{decimal_in, is_decimal, shown, shown_in, tens}
use Rattle.octets.specs.Text.{before, same, stands_at}
use lib.ListN.{replicate}
use mathlib.Core.List.{[], ◌∷◌, ◌++◌}
use mathlib.Core.Path.{◌≡◌, refl}

pub lines_say :
    (said (ascii "1000 tick A1.nx") ≡ tick (ascii "1000") 1000 (ascii "A1.nx"))
    × (said (ascii "007 [1]") ≡ message (ascii "007") 7 (ascii "[1]"))
    × (said (ascii "7 tick") ≡ message (ascii "7") 7 (ascii "tick"))
    × (said (ascii "7 tick ") ≡ tick (ascii "7") 7 [])
    × (said (ascii "7 ") ≡ message (ascii "7") 7 [])
    × (said (ascii "18446744073709551615 x") ≡ message (ascii "18446744073709551615") 18446744073709551615 (ascii "x"))
    × (said (ascii "18446744073709551616 x") ≡ bad)
    × (said (ascii "000000000000000000001 x") ≡ bad)
    × (said (ascii "7") ≡ bad)
    × (said (ascii " x") ≡ bad)
    × (said [] ≡ bad)
unfolding said said_by line_of timed before same stands_at decimal_in is_decimal tens all is_digit among
lines_say = (refl, refl, refl, refl, refl, refl, refl, refl, refl, refl, refl)

-- 32,768 bytes after the time's space, and one more, tick or not
pub longest :
    (line_of (ascii "7 " ++ replicate 32768 120) ≡ Message 1 7)
    × (line_of (ascii "7 " ++ replicate 32769 120) ≡ Long 1)
    × (line_of (ascii "7 tick " ++ replicate 32763 120) ≡ Tick 1 7)
    × (line_of (ascii "7 tick " ++ replicate 32764 120) ≡ Long 1)
unfolding line_of timed before same stands_at decimal_in is_decimal tens all is_digit among
longest = (refl, refl, refl, refl)

pub answers-read :
    (answer_line (ascii "1000") (Err (Call NoCall Nobody)) ≡ ascii "1000 refused 20" ++ (10 ∷ []))
    × (answer_line (ascii "007") (accepted Repeat (Some Cancelling)) ≡ ascii "007 repeat 6" ++ (10 ∷ []))
    × (answer_line (ascii "0") (accepted Freed None) ≡ ascii "0 freed 0" ++ (10 ∷ []))
unfolding answer_line answer_text shown shown_in
answers-read = (refl, refl, refl)

pub lines_split :
    (lines_of [] ≡ [])
    × (lines_of (10 ∷ []) ≡ [] ∷ [])
    × (lines_of (ascii "a" ++ (10 ∷ (13 ∷ (10 ∷ ascii "b")))) ≡ ascii "a" ∷ ((13 ∷ []) ∷ (ascii "b" ∷ [])))
unfolding lines_of ended_lines open_line last_line
lines_split = (refl, refl, refl)
