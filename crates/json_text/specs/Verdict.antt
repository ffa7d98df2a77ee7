-- What the public reader's answer says of a text under a ceiling of values, in the words of RFC 7159's grammar alone: its contract in `src/lib.rt` cites
-- `Verdict`. 01 Reading, rows 4 and 5; 02 §9, row 11. Assumes nothing.
use Rattle.std.specs.Prelude.{cond, List, [], ◌∷◌, ◌++◌, ◌≡◌, ℕ, ◌+◌, ◌≤◌, ◌<◌, ltb, length, take, Result, Ok, Err}
use Rattle.json_text.specs.Rfc7159.{JSON-text, JSON}
use Rattle.json_text.specs.Values.{count, places}
use Rattle.json_text.specs.declared.Fault.{Fault}
use Rattle.json_text.specs.declared.Fault.TheVariants.{Bad, Deep, Many}

-- s is refused at p (number 4): the bytes before p begin a text nested at most d deep; with the byte at p, if s has one there, no text goes on,
-- however deep; and s is none
pub record Refused (d : ℕ) (s : List ℕ) (p : ℕ) : Type 0 where
  pub inside : p ≤ length s
  pub more : List ℕ
  pub can : JSON-text d (take p s ++ more)
  pub cannot : p < length s → (u : List ℕ) → JSON (take (p + 1) s ++ u) → ⊥
  pub none_such : JSON s → ⊥

-- s nests too deep at p (number 5): the bytes before p begin a text nested at most d deep; with the byte at p they begin none, but one
-- nested a level deeper
pub record TooDeep (d : ℕ) (s : List ℕ) (p : ℕ) : Type 0 where
  pub inside : p < length s
  pub more : List ℕ
  pub can : JSON-text d (take p s ++ more)
  pub cannot : (u : List ℕ) → JSON-text d (take (p + 1) s ++ u) → ⊥
  pub deeper : List ℕ
  pub could : JSON-text (d + 1) (take (p + 1) s ++ deeper)

-- the places before p
abbrev pub below : ℕ → List ℕ → List ℕ
below p [] = []
below p (x ∷ l) = cond (ltb x p) (x ∷ below p l) (below p l)

-- how many values of a text begin before byte p
abbrev pub before : (p : ℕ) (s : List ℕ) → JSON-text 8 s → ℕ
before p s x = length (below p (places 8 s x))

-- the value at p is one too many (number 11): with the byte at p the bytes of s begin a text nested at most eight deep, of whose values c begin before p,
-- and one more at p
pub record TooMany (c : ℕ) (s : List ℕ) (p : ℕ) : Type 0 where
  pub inside : p < length s
  pub more : List ℕ
  pub can : JSON-text 8 (take (p + 1) s ++ more)
  pub full : before p (take (p + 1) s ++ more) can ≡ c
  pub one : before (p + 1) (take (p + 1) s ++ more) can ≡ c + 1

-- no value before p is too many
abbrev pub Few : ℕ → List ℕ → ℕ → Type 0
Few c s p = (q : ℕ) → q < p → TooMany c s q → ⊥

-- what an answer says of s under a ceiling of c: a text nested at most eight deep, with so many values, no more than the ceiling; or refused at a place, or
-- too deep at one, before which no value is too many; or a value too many at one. So at one place 5 comes before 11, and 4 and 11 never meet.
abbrev pub Verdict : ℕ → List ℕ → Result ℕ Fault → Type 0
Verdict c s (Ok n) = (x : JSON-text 8 s) × ((count 8 s x ≡ n) × (n ≤ c))
Verdict c s (Err (Bad p)) = Refused 8 s p × Few c s p
Verdict c s (Err (Deep p)) = TooDeep 8 s p × Few c s p
Verdict c s (Err (Many p)) = TooMany c s p
