-- Making a blank table (01 The table image, last sentence). Cited by the contracts of `src/blanking.rt`. Assumes nothing.
use Rattle.std.specs.Prelude.{ℕ, ◌+◌, ◌*◌, eqb, length, replicate, Bool, true, false, ◌&&◌, cond, List, ◌++◌, Result, Ok, Err}
use Rattle.octets.specs.Class.{among}
use Rattle.table.specs.Image.{header_size, record_size, most_records, header_of}
use Rattle.table.specs.declared.blanking.Misfit.{Misfit}

-- the count is 1 to 255, and the length is right for it
unfoldable pub blank_fits : ℕ → ℕ → Bool
blank_fits count len = among 1 most_records count && eqb len (header_size + record_size * count)

-- a table of so many free records
unfoldable pub blank_of : ℕ → List ℕ
blank_of count = header_of count ++ replicate (record_size * count) 0

-- what making a blank table answers
abbrev pub Made : Type 0
Made = Result (Unit {0}) Misfit

abbrev pub made_if : Bool → Made
made_if true = Ok tt
made_if false = Err record {}

-- the paper's number: a wrong count or length is refused by 1; 0 where it is done
abbrev pub made_number : Made → ℕ
made_number (Ok _) = 0
made_number (Err _) = 1

-- done, or refused for a wrong count or length
abbrev pub blank_answer : List ℕ → ℕ → Made
blank_answer out count = made_if (blank_fits count (length out))

-- the buffer afterwards: a blank table, or as it was where that is refused
abbrev pub blank_after : List ℕ → ℕ → List ℕ
blank_after out count = cond (blank_fits count (length out)) (blank_of count) out
