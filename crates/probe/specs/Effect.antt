-- What the probe holds from line to line, and the effect of a command that only shows. Cited by what the commands are said to do. Assumes nothing.
use Rattle.std.specs.Prelude.{ℕ, List}
use Rattle.lines.specs.Log.{Effect}

-- the ceiling of JSON values for `read` and `msg` (02 §9), and the table
pub record Held : Type 0 where
  pub ceiling : ℕ
  pub table : List ℕ

abbrev pub holding : ℕ → List ℕ → Held
holding c t = record { ceiling = c; table = t }

-- a text, and the table t as it was
abbrev pub shows : List ℕ → List ℕ → Effect (List ℕ)
shows t text = record { text = text; held = t }

-- what a command does to the table; the ceiling c stays
abbrev pub keeping : ℕ → Effect (List ℕ) → Effect Held
keeping c e = record { text = e.text; held = holding c e.held }
