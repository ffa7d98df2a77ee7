-- A mark of a text, by which most texts that differ are told apart without comparing them. Cited by the contracts of `src/marks.rt`. Inner: what
-- `well_formed` promises does not speak of it, and by `unmarked-apart` in proofs/MarkLaws.antt a record whose mark is new is `apart`. Assumes nothing.
use Rattle.std.specs.Prelude.{ℕ, zero, suc, ◌+◌, ◌*◌, ◌%◌, ◌<◌, eqb, get_or, Bool, false, ◌||◌, List, [], ◌∷◌, ◌≡◌}
use Rattle.table.specs.Image.{record_at}
use Rattle.table.specs.Record.{record_call_id}

-- the mark of a text behind the mark v: 31 times that, and the byte, of which the last 32 bits are kept
unfoldable pub mark_from : ℕ → List ℕ → ℕ
mark_from v [] = v
mark_from v (x ∷ xs) = mark_from ((v * 31 + x) % 4294967296) xs

-- the mark of a text
abbrev pub mark_of : List ℕ → ℕ
mark_of s = mark_from 0 s

-- whether a mark is among the first n
unfoldable pub marked : List ℕ → ℕ → ℕ → Bool
marked marks zero m = false
marked marks (suc n) m = marked marks n m || eqb (get_or marks n 0) m

-- the first k marks are those of the first k records' Call-IDs
pub record Marks (t marks : List ℕ) (k : ℕ) : Type 0 where
  pub each : (l : ℕ) → l < k → get_or marks l 0 ≡ mark_of (record_call_id (record_at t l))
