-- The answers as C sees them: document 01's numbers, and 0 for what is not there. Cited by every contract of `src/lib.rt`. Assumes nothing.
use Rattle.std.specs.Option.{unwrap_or}
use Rattle.std.specs.Prelude.{ℕ, true, false, is_some, length, slice_get, pos, List, Option, Result, Ok, Err}
use Rattle.std.specs.Prelude.{Some, None as NoPosition}
use Rattle.answers.specs.Answer.{Answer, refusal_number, refusal_place, refusal_reply, shown_of}
use Rattle.answers.specs.declared.Word.TheVariants.{Pass, Repeat, Bye, Timeout, Idle, Freed, None}
use Rattle.answers.specs.declared.Word.{Word}
use Rattle.message.specs.Refusal.{Reading, number, place}
use Rattle.message.specs.declared.reading.Report.{Report}
use Rattle.net119.specs.declared.flat.CountAnswer.{CountAnswer}
use Rattle.net119.specs.declared.flat.EventAnswer.{EventAnswer}
use Rattle.net119.specs.declared.flat.HomeAnswer.{HomeAnswer}
use Rattle.net119.specs.declared.flat.PositionAnswer.{PositionAnswer}
use Rattle.net119.specs.declared.flat.PositionsAnswer.{PositionsAnswer}
use Rattle.net119.specs.declared.flat.ReadAnswer.{ReadAnswer}
use Rattle.net119.specs.declared.flat.RemoveAnswer.{RemoveAnswer}
use Rattle.net119.specs.declared.flat.WriteAnswer.{WriteAnswer}
use Rattle.positions.specs.Positions.{home_of, positions_of}
use Rattle.positions.specs.declared.objects.Home.{Home}
use Rattle.positions.specs.declared.objects.Position.{Position}
use Rattle.writing.specs.Outcome.{writing_number}
use Rattle.writing.specs.declared.answers.Refusal.{Refusal}
use Rattle.writing.specs.declared.answers.Taken.{Taken}

-- a reading: 0, accepted; else the number and the place of the refusal
abbrev pub flat_reading : Reading → ReadAnswer
flat_reading (Err e) = record { number = number e; place = place e }
flat_reading (Ok m) = record { number = 0; place = 0 }

-- the same, and the count
abbrev pub flat_report : Report → CountAnswer
flat_report r = record { number = (flat_reading r.reading).number; place = (flat_reading r.reading).place; count = r.count }

-- the words by number, in the order in which document 01 has them
abbrev pub flat_word : Word → ℕ
flat_word Pass = 1
flat_word Repeat = 2
flat_word Bye = 3
flat_word Timeout = 4
flat_word Idle = 5
flat_word Freed = 6
flat_word None = 7

-- an event's answer: number 0, accepted, with its word and the state shown; else the refusal's number, place and reply
abbrev pub flat_answer : Answer → EventAnswer
flat_answer (Ok a) = record { number = 0; word = flat_word a.word; state = shown_of a.state; reply = 0; place = 0 }
flat_answer (Err f) = record { number = refusal_number f; word = 0; state = 0; reply = refusal_reply f; place = refusal_place f }

-- a writing: number 0 and the result's length; else the refusal's number
abbrev pub flat_written : Result ℕ Refusal → WriteAnswer
flat_written (Ok n) = record { number = 0; length = n }
flat_written (Err r) = record { number = writing_number r; length = 0 }

-- an entry taken off: the same, and where the next host begins and ends in the message
abbrev pub flat_removed : Result Taken Refusal → RemoveAnswer
flat_removed (Ok t) = record { number = 0; length = t.length; hoststart = t.host.start; hostend = t.host.end }
flat_removed (Err r) = record { number = writing_number r; length = 0; hoststart = 0; hostend = 0 }

-- how many positions the message s has, and whether it has a home
abbrev pub flat_positions : List ℕ → Reading → PositionsAnswer
flat_positions s (Ok m) = record { number = 0; home = is_some (home_of s m); place = 0; count = length (positions_of s m) }
flat_positions s (Err e) = record { number = number e; home = false; place = place e; count = 0 }

-- none: of a message that is accepted, or that is refused by a number at a place
abbrev pub no_position : ℕ → ℕ → PositionAnswer
no_position n p = record { number = n; found = false; provider = 0; hasaccuracy = false; latitude = pos 0; longitude = pos 0; place = p; accuracy = 0 }

abbrev pub no_home : ℕ → ℕ → HomeAnswer
no_home n p = record { number = n; found = false; latitude = pos 0; longitude = pos 0; place = p }

-- its position k, counted from 0, if it has so many
abbrev pub flat_position : Option Position → PositionAnswer
flat_position (Some p) =
    record {
      number = 0;
      found = true;
      provider = p.provider;
      hasaccuracy = is_some p.accuracy;
      latitude = p.latitude;
      longitude = p.longitude;
      place = 0;
      accuracy = unwrap_or p.accuracy 0;
    }
flat_position NoPosition = no_position 0 0

abbrev pub flat_position_in : List ℕ → ℕ → Reading → PositionAnswer
flat_position_in s k (Ok m) = flat_position (slice_get (positions_of s m) k)
flat_position_in s k (Err e) = no_position (number e) (place e)

-- its home, if it has one
abbrev pub flat_home : Option Home → HomeAnswer
flat_home (Some h) = record { number = 0; found = true; latitude = h.latitude; longitude = h.longitude; place = 0 }
flat_home NoPosition = no_home 0 0

abbrev pub flat_home_in : List ℕ → Reading → HomeAnswer
flat_home_in s (Ok m) = flat_home (home_of s m)
flat_home_in s (Err e) = no_home (number e) (place e)
