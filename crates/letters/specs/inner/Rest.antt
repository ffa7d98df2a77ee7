-- What the pieces of a rule still ask of the rest of a text, letter by letter: `RestLaws` of proofs/ says that they are those of `rules`.
-- Behind a piece stands what Q asks. Assumes nothing.
use Rattle.std.specs.Prelude.{ℕ, zero, suc, ◌+◌, ◌-◌, ◌*◌, eqb, ltb, Bool, true, false, not, ◌&&◌, ◌||◌, cond, List, [], ◌∷◌}
use Rattle.octets.specs.Class.{among, is_digit}
use Rattle.rules.specs.Classes.{holds}
use Rattle.rules.specs.Pieces.{Piece, count, fixed, free, number, run, word, word_number}
use Rattle.rules.specs.declared.classes.Class.{Class}

-- nothing
unfoldable pub end_rest : List ℕ → Bool
end_rest [] = true
end_rest (x ∷ u) = false

-- the letters w
unfoldable pub fixed_rest : List ℕ → (List ℕ → Bool) → List ℕ → Bool
fixed_rest [] Q u = Q u
fixed_rest (b ∷ w) Q [] = false
fixed_rest (b ∷ w) Q (x ∷ u) = eqb x b && fixed_rest w Q u

-- m more digits of a number from lo to hi whose digits so far are v; what stands behind it may depend on it
unfoldable pub number_rest : ℕ → ℕ → (ℕ → List ℕ → Bool) → ℕ → ℕ → List ℕ → Bool
number_rest lo hi Q zero v u = among lo hi v && Q v u
number_rest lo hi Q (suc m) v [] = false
number_rest lo hi Q (suc m) v (x ∷ u) = is_digit x && number_rest lo hi Q m (v * 10 + (x - 48)) u

-- more letters of a run that has n so far, the last of them of class e or not
unfoldable pub run_rest : ℕ → ℕ → Class → Class → (List ℕ → Bool) → ℕ → Bool → List ℕ → Bool
run_rest lo hi c e Q n l [] = (among lo hi n && l) && Q []
run_rest lo hi c e Q n l (x ∷ u) =
    cond (holds c x) ((not (eqb n 0) || holds e x) && run_rest lo hi c e Q (suc n) (holds e x) u) ((among lo hi n && l) && Q (x ∷ u))

-- more digits of a number from 1 to hi that is v so far, 0 before its first
unfoldable pub count_rest : ℕ → (List ℕ → Bool) → ℕ → List ℕ → Bool
count_rest hi Q v [] = among 1 hi v && Q []
count_rest hi Q v (x ∷ u) =
    cond (is_digit x) (ltb 0 (v * 10 + (x - 48)) && count_rest hi Q (v * 10 + (x - 48)) u) (among 1 hi v && Q (x ∷ u))

-- pieces one after the other: `same` of proofs/RuleLaws.antt says that this is what `rules`' `reads` asks
unfoldable pub rest_of : List Piece → List ℕ → Bool
rest_of [] = end_rest
rest_of (fixed w ∷ ps) = fixed_rest w (rest_of ps)
rest_of (run lo hi c e ∷ ps) = run_rest lo hi c e (rest_of ps) 0 true
rest_of (number n lo hi ∷ ps) = number_rest lo hi (λ v. rest_of ps) n 0
rest_of (count hi ∷ ps) = count_rest hi (rest_of ps) 0
rest_of (word ws ∷ ps) = λ u. ltb 0 (word_number ws u)
rest_of (free ∷ ps) = λ u. true
