-- What the contracts of `src/places.rt` say of a place that a walk finds, for the proofs of their callers: which place of `Places` it is, and within what
-- bounds. Inner: the fields `is` are equations with `Places`, and fix every answer by themselves. Assumes nothing.
use Rattle.std.specs.Prelude.{List, ◌≡◌, ℕ, ◌≤◌, length}
use Rattle.json_text.specs.Places.{behind, follows, value_of}

-- r is the place x, found by a walk from a: not before a, and inside s if a is
pub record Lands (s : List ℕ) (a x r : ℕ) : Type 0 where
  pub is : r ≡ x
  pub low : a ≤ r
  pub inner : a ≤ length s → r ≤ length s

-- the member whose name opens at q: where its name ends, where its value begins and ends, and what follows
pub record Row (s : List ℕ) (q name value end then : ℕ) : Type 0 where
  pub named : Lands s q (behind s q) name
  pub begins : Lands s name (value_of s q) value
  pub ends : Lands s value (behind s (value_of s q)) end
  pub goes : Lands s end (follows s (value_of s q)) then

-- the element at v: where it ends, and what follows
pub record Cell (s : List ℕ) (v end then : ℕ) : Type 0 where
  pub ends : Lands s v (behind s v) end
  pub goes : Lands s end (follows s v) then
