-- What a program that answers lines writes for them, whatever it holds from line to line, and whatever a line does to that. Cited by the contracts and
-- theorems of `keep`, which holds a table, and of `probe`. Assumes nothing.
use Rattle.std.specs.Prelude.{ℕ, List, [], ◌∷◌, ◌++◌}

-- what is written for a line, and what is held after it
pub record Effect (S : Type 0) : Type 0 where
  pub text : List ℕ
  pub held : S

-- what is written for lines, one after another, where `done` says what a line does to what is held
unfoldable pub log_text : {S : Type 0} → (S → List ℕ → Effect S) → S → List (List ℕ) → List ℕ
log_text done t [] = []
log_text done t (l ∷ ls) = (done t l).text ++ log_text done (done t l).held ls

-- what is held after them
unfoldable pub log_held : {S : Type 0} → (S → List ℕ → Effect S) → S → List (List ℕ) → S
log_held done t [] = t
log_held done t (l ∷ ls) = log_held done (done t l).held ls
