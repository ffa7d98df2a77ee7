-- Runs of plain bytes in a string: what the contracts of `src/strings.rt` cite for reading 32 bytes at a time. Inner: the readers over these answer the
-- machine (`Machine.Pass`) and the places (`Places.left`); proofs/RunLaws.antt has the laws. Assumes nothing.
use Rattle.std.specs.Prelude.{◌≡◌, true, false, cond, List, ℕ, ◌+◌, ◌≤◌, ◌<◌, ltb, get_or}
use Rattle.json_text.specs.inner.Machine.{is_plain}

-- 32 for a plain byte, and its place in the run for any other
unfoldable pub rank : ℕ → ℕ → ℕ
rank b k = cond (is_plain b) 32 k

-- the lesser of two
unfoldable pub least : ℕ → ℕ → ℕ
least a b = cond (ltb b a) b a

-- of the n bytes of s from a on, so many are plain before the first that is not
pub record Run (s : List ℕ) (a n r : ℕ) : Type 0 where
  pub few : r ≤ n
  pub plain : (j : ℕ) → j < r → is_plain (get_or s (a + j) 0) ≡ true
  pub stop : r < n → is_plain (get_or s (a + r) 0) ≡ false
