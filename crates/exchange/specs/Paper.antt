-- An answer as document 01 gives it (01 Events): 'accepted, with its word and the new state, or refused, with number, place and reply'.
-- The promises say answers so. Assumes nothing.
use Rattle.std.specs.Prelude.{ℕ, List, Ok, Err}
use Rattle.answers.specs.Answer.{Answer, refusal_number, refusal_place, refusal_reply, shown_of, spelling}

pub data Paper : Type 0 where
  accepted : (word : List ℕ) → (state : ℕ) → Paper
  refused : (number : ℕ) → (place : ℕ) → (reply : ℕ) → Paper

abbrev pub paper_of : Answer → Paper
paper_of (Ok a) = accepted (spelling a.word) (shown_of a.state)
paper_of (Err f) = refused (refusal_number f) (refusal_place f) (refusal_reply f)
