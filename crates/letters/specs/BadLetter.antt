-- The bad letter of a text under a rule (02 §12). R is any rule on texts: nothing here knows what it asks. A text's letters are its octets: what the rules
-- of the five fields allow is ASCII. Assumes nothing.
use Rattle.std.specs.Prelude.{ℕ, suc, ◌≤◌, ◌<◌, length, take, Bool, false, true, List, ◌++◌, ◌≡◌}

-- p begins some text that R allows
pub record Begins (R : List ℕ → Bool) (p : List ℕ) : Type 0 where
  pub rest : List ℕ
  pub allowed : R (p ++ rest) ≡ true

-- the letters of t before k begin an allowed text; with the letter at k, if there is one, they begin none; and where there is none, t just stops short
pub record BadLetter (R : List ℕ → Bool) (t : List ℕ) (k : ℕ) : Type 0 where
  pub inside : k ≤ length t
  pub before : Begins R (take k t)
  pub bad : k < length t → Begins R (take (suc k) t) → ⊥
  pub short : k ≡ length t → R t ≡ false
