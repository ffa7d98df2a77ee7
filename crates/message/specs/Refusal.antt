-- What is read of a text: a message, or the row of document 01 that refuses it (01 Reading, rows 2 to 10; 02 §9, row 11), by number and place. Assumes nothing.
use Rattle.std.specs.Prelude.{ℕ, Result}
use Rattle.json_text.specs.declared.Fault.{Fault}
use Rattle.json_text.specs.declared.Fault.TheVariants as faults
use Rattle.message.specs.declared.facts.Message.{Message}
use Rattle.message.specs.declared.refusals.Refusal.TheVariants.{Length, Utf8, Json, Deep, Shape, Twice, Missing, Rule, Disagree, Many}
use Rattle.message.specs.declared.refusals.Refusal.{Refusal}

abbrev pub Reading : Type 0
Reading = Result Message Refusal

-- rows 4, 5 and 11 by the fault of the JSON
abbrev pub of_json : Fault → Refusal
of_json (faults.Bad p) = Json p
of_json (faults.Deep p) = Deep p
of_json (faults.Many p) = Many p

-- the row's number
abbrev pub number : Refusal → ℕ
number Length = 2
number (Utf8 p) = 3
number (Json p) = 4
number (Deep p) = 5
number Shape = 6
number (Twice p) = 7
number (Missing n) = 8
number (Rule p) = 9
number Disagree = 10
number (Many p) = 11

-- the place; 0 where the row tells none
abbrev pub place : Refusal → ℕ
place Length = 0
place (Utf8 p) = p
place (Json p) = p
place (Deep p) = p
place Shape = 0
place (Twice p) = p
place (Missing n) = n
place (Rule p) = p
place Disagree = 0
place (Many p) = p
