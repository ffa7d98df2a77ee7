-- Inner: how a run of a program that answers lines goes from one call of the system to the next. Cited by the contracts of `keep` and `probe`. Tied
-- to `Log` and `Input` by `whole_run` and `so_far` in `proofs/WholeRun.antt`: what a run hands on is the text of the lines it read. Assumes nothing.
use Rattle.std.specs.Prelude.{ℕ, take, List, [], ◌++◌, ◌≡◌}
use Rattle.lines.specs.Input.{ended_lines, open_line}
use Rattle.lines.specs.Log.{Effect, log_held, log_text}

-- The work goes from one state to another and makes a text on the way; a state is what is held, what is kept of the line that is open, and the rest of the
-- piece that was read. The text, and then what the rest still makes, is what was to be made; what is held behind the piece is the same, and so is the line
-- that is open behind it, as far as a buffer of cap bytes keeps it.
pub record Works {S : Type 0} (done : S → List ℕ → Effect S) (cap : ℕ) (t : S) (k s : List ℕ) (t' : S) (k' s' text : List ℕ) : Type 0 where
  pub written : log_text done t (ended_lines k s) ≡ text ++ log_text done t' (ended_lines k' s')
  pub held : log_held done t (ended_lines k s) ≡ log_held done t' (ended_lines k' s')
  pub open_line : take cap (open_line k s) ≡ take cap (open_line k' s')

-- one turn: where nothing of a piece is left the next piece p is read, and no text is made; or lines are answered, and their text is made, to
-- be handed to `write`
pub data Stepped {S : Type 0} (done : S → List ℕ → Effect S) (cap : ℕ) (t : S) (k : List ℕ) : List ℕ → S → List ℕ → List ℕ → List ℕ → Type 0 where
  reads : {p : List ℕ} → Stepped done cap t k [] t k p []
  answers : {s : List ℕ} {t' : S} {k' s' x : List ℕ} → Works done cap t k s t' k' s' x → Stepped done cap t k s t' k' s' x

-- turn behind turn from what is held at first on: all that was read, all that was handed to `write`, and the state that was reached
pub data Turns {S : Type 0} (done : S → List ℕ → Effect S) (cap : ℕ) (t₀ : S) : List ℕ → List ℕ → S → List ℕ → List ℕ → Type 0 where
  begun : Turns done cap t₀ [] [] t₀ [] []
  read : {i w : List ℕ} {t : S} {k p : List ℕ} → Turns done cap t₀ i w t k [] → Turns done cap t₀ (i ++ p) w t k p
  answered : {i w : List ℕ} {t : S} {k s : List ℕ} {t' : S} {k' s' x : List ℕ} → Turns done cap t₀ i w t k s → Works done cap t k s t' k' s' x
      → Turns done cap t₀ i (w ++ x) t' k' s'

-- a state that some run of some input reaches
pub record Reached {S : Type 0} (done : S → List ℕ → Effect S) (cap : ℕ) (t₀ t : S) (k s : List ℕ) : Type 0 where
  pub input : List ℕ
  pub handed : List ℕ
  pub run : Turns done cap t₀ input handed t k s
