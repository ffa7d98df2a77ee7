-- The lines of an input. Cited by what a program is said to write for an input (`Log`, and the theorems of `proofs/`). Assumes nothing.
use Prim.Native.Char.{code}
use Rattle.std.specs.Prelude.{ℕ, eqb, cond, List, [], ◌∷◌, ◌++◌}

-- the lines that end in a piece of input, in order, where k stands before it in the line that is open: a line ends at a line feed
unfoldable pub ended_lines : List ℕ → List ℕ → List (List ℕ)
ended_lines k [] = []
ended_lines k (b ∷ s) = cond (eqb b (code "\n")) (k ∷ ended_lines [] s) (ended_lines (k ++ (b ∷ [])) s)

-- the line that is open behind the piece
unfoldable pub open_line : List ℕ → List ℕ → List ℕ
open_line k [] = k
open_line k (b ∷ s) = cond (eqb b (code "\n")) (open_line [] s) (open_line (k ++ (b ∷ [])) s)

-- the last line may lack its line feed; where nothing stands behind the last one there is no line
unfoldable pub last_line : List ℕ → List (List ℕ)
last_line [] = []
last_line (b ∷ k) = (b ∷ k) ∷ []

-- the lines of a whole input
unfoldable pub lines_of : List ℕ → List (List ℕ)
lines_of s = ended_lines [] s ++ last_line (open_line [] s)
