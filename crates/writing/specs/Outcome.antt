-- What becomes of a writing (01 Writing): the number of a refusal, the last two refusals, which go by the result's length, the answer, and the
-- output after it. Cited by the contracts of the entries and of what they write with. Assumes nothing.
use Rattle.std.specs.Prelude.{ℕ, leb, ltb, length, ◌&&◌, cond, List, ◌≡◌, Result, Ok, Err}
use Rattle.message.specs.declared.facts.Message.{Message}
use Rattle.message.specs.Refusal.{Reading}
use Rattle.octets.specs.Splice.{written}
use Rattle.writing.specs.declared.answers.Refusal.TheVariants.{Path, Kind, Code, Date, Loop, Full, Few, Foreign, Long, Room, Broken}
use Rattle.writing.specs.declared.answers.Refusal.{Refusal}

-- the paper's number of a refusal; 9 is a text's alone (02 §2)
abbrev pub writing_number : Refusal → ℕ
writing_number Path = 38
writing_number Kind = 30
writing_number Code = 31
writing_number Date = 32
writing_number Loop = 34
writing_number Full = 35
writing_number Few = 37
writing_number Foreign = 36
writing_number Long = 39
writing_number Room = 33
writing_number Broken = 9

-- what the rules say before the result's length counts: a refusal, or the result
pub data Outcome : Type 0 where
  refuse : Refusal → Outcome
  write : List ℕ → Outcome

-- 30: what is not accepted by the reading is refused; else f of what is read
abbrev pub on_read : Reading → (Message → Outcome) → Outcome
on_read (Err e) f = refuse Kind
on_read (Ok m) f = f m

-- into an output of so many bytes: 39, the result is over 32,768; 33, the output is shorter than the result; or done
unfoldable pub fitted : ℕ → List ℕ → Result ℕ Refusal
fitted room w = cond (ltb 32768 (length w)) (Err Long) (cond (ltb room (length w)) (Err Room) (Ok (length w)))

-- the answer
abbrev pub answered : ℕ → Outcome → Result ℕ Refusal
answered room (refuse r) = Err r
answered room (write w) = fitted room w

-- the output with the result at its front, if it fits; bytes past the result stay
unfoldable pub put : List ℕ → List ℕ → List ℕ
put o w = cond (leb (length w) 32768 && leb (length w) (length o)) (written o w) o

-- the output after: on refusal it is as it was
abbrev pub output_left : List ℕ → Outcome → List ℕ
output_left o (refuse r) = o
output_left o (write w) = put o w

-- answer and output of a writing into o
pub record Writes (o : List ℕ) (x : Outcome) (r : Result ℕ Refusal) (o' : List ℕ) : Type 0 where
  pub answer : r ≡ answered (length o) x
  pub output : o' ≡ output_left o x
