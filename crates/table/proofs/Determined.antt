-- The contracts of `blank` and `well_formed` determine the answer and every lent byte: two results that one allows are equal.
-- Assumes nothing.
use Prim.Native.Nat.{ℕ}
use Rattle.table.specs.Blank.{Made, blank_after, blank_answer}
use Rattle.table.specs.WellFormed.{well_formed}
use mathlib.Core.Bool.{Bool}
use mathlib.Core.List.{List}
use mathlib.Core.Path.{◌≡◌, sym, ◌∙◌}

pub blank-determined : (out : List ℕ) (count : ℕ) {m n : Made} {a b : List ℕ} → (m ≡ blank_answer out count) × (a ≡ blank_after out count)
    → (n ≡ blank_answer out count) × (b ≡ blank_after out count) → (m ≡ n) × (a ≡ b)
blank-determined out count p q = (p.0 ∙ sym q.0, p.1 ∙ sym q.1)

pub well_formed_determined : (t : List ℕ) {a b : Bool} → a ≡ well_formed t → b ≡ well_formed t → a ≡ b
well_formed_determined t p q = p ∙ sym q
