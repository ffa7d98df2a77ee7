-- Comparing and finding: what the contracts of `src/texts.rt` cite. Assumes nothing.
use Rattle.std.specs.Cmp.Lexicographic.{pointwise}
use Rattle.std.specs.Prelude.{ℕ, suc, Bool, true, false, List, [], ◌∷◌, eqb, length, take, drop}

-- whether two texts are the same: byte for byte, and of one length
unfoldable pub same : List ℕ → List ℕ → Bool
same a b = pointwise eqb a b

-- whether the text w stands in s from byte at on
unfoldable pub stands_at : List ℕ → ℕ → List ℕ → Bool
stands_at s at w = same (take (length w) (drop at s)) w

-- 0 where the first byte is b, else one more than in the rest
abbrev pub here : Bool → ℕ → ℕ
here true n = 0
here false n = suc n

-- how many bytes stand before the first b; all of them where there is none
unfoldable pub before : ℕ → List ℕ → ℕ
before b [] = 0
before b (x ∷ xs) = here (eqb x b) (before b xs)
