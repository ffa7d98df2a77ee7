-- The machine with room for so many values, as the readers of src/ are proved against it: `tour` puts the machine's answer and the places where it
-- begins values together. Inner: by `verdict` and `verdict-answer` in proofs/VerdictLaws.antt what it comes to on a whole text, `visited`, is the one
-- answer that `Verdict` allows. Assumes nothing.
use Rattle.std.specs.Prelude.{◌≡◌, cond, List, [], ◌∷◌, ℕ, zero, suc, ◌-◌, ◌≤◌, length, eqb, Result, Ok, Err}
use Rattle.json_text.specs.inner.Machine.{Walked, spotted, Stack, alone, text, levels, Mode, value, after, from, place}
use Rattle.json_text.specs.inner.Begun.{begun}
use Rattle.json_text.specs.declared.Fault.{Fault}
use Rattle.json_text.specs.declared.Fault.TheVariants.{Bad, Deep, Many}

-- an answer with room for so many values: the place behind what was read and the room left, or why there is none
abbrev pub Toured : Type 0
Toured = Result (ℕ × ℕ) Fault

-- an answer without a ceiling, with room for n values left
abbrev pub lift : Walked → ℕ → Toured
lift (Ok e) n = Ok (e, n)
lift (Err f) n = Err f

-- the answer g where values begin at l, and there is room for n
abbrev pub cap : ℕ → Walked → List ℕ → Toured
cap n g [] = lift g n
cap zero g (p ∷ l) = Err (Many p)
cap (suc n) g (p ∷ l) = cap n g l

-- the answer from byte i of s on, with room for n values
unfoldable pub tour : List ℕ → ℕ → Mode → Stack → ℕ → Toured
tour s i m k n = cap n (from s i m k) (begun s i m k)

-- what is answered on a whole text under a ceiling of c: as many values as the room that was taken
abbrev pub total : ℕ → Toured → Result ℕ Fault
total c (Ok (e, n)) = Ok (c - n)
total c (Err f) = Err f

abbrev pub visited : ℕ → List ℕ → Result ℕ Fault
visited c s = total c (tour s 0 value (text 8) c)

-- the value that starts at byte a, with d levels left and room for n values
abbrev pub lone : ℕ → ℕ → List ℕ → ℕ → Toured
lone d n s a = tour s a value (alone d) n

-- a reader that came to its end hands on to the machine there
abbrev pub resume : List ℕ → Mode → Stack → Toured → Toured
resume s m k (Ok (e, n)) = tour s e m k n
resume s m k (Err f) = Err f

abbrev pub spot : Toured → ℕ
spot (Ok (e, n)) = e
spot (Err f) = spotted f

-- the room left
abbrev pub room_in : Toured → ℕ
room_in (Ok (e, n)) = n
room_in (Err f) = 0

-- a value has begun at i with room for n; its reader answers r
abbrev pub taken : ℕ → ℕ → Walked → Toured
taken i zero r = Err (Many i)
taken i (suc n) r = lift r n

-- a literal or a number at i, whose reader answers r: where it stopped at i none has begun
abbrev pub started : ℕ → ℕ → Walked → Toured
started i n (Ok e) = taken i n (Ok e)
started i n (Err (Bad p)) = cond (eqb p i) (Err (Bad p)) (taken i n (Err (Bad p)))
started i n (Err (Deep p)) = taken i n (Err (Deep p))
started i n (Err (Many p)) = taken i n (Err (Many p))

-- a reader of what may nest, with so many levels left, and room for so many values
pub record Tally (s : List ℕ) (a left room : ℕ) (m : Mode) (f : Stack → Stack) (r : Toured) : Type 0 where
  pub low : a ≤ spot r
  pub high : spot r ≤ length s
  pub same : (k : Stack) → levels (f k) ≡ left → tour s a m (f k) room ≡ resume s after k r

-- a reader that begins no value
pub record Calm (s : List ℕ) (a : ℕ) (m m' : Mode) (r : Walked) : Type 0 where
  pub low : a ≤ place r
  pub high : place r ≤ length s
  pub same : (k : Stack) (n : ℕ) → tour s a m k n ≡ resume s m' k (lift r n)
