-- How many letters of a text begin what a rule allows, found letter by letter: `Theorems` of proofs/ says that it is the bad letter's place in every
-- text that breaks the rule, in the words of BadLetter.antt. Behind a piece K goes on. Assumes nothing.
use Rattle.std.specs.Prelude.{ℕ, zero, suc, ◌+◌, ◌-◌, ◌*◌, eqb, leb, ltb, length, max, Bool, true, not, ◌&&◌, ◌||◌, cond, List, [], ◌∷◌}
use Rattle.octets.specs.Ascii.{ascii}
use Rattle.octets.specs.Class.{among, is_digit}
use Rattle.rules.specs.Address.{callee, caller}
use Rattle.rules.specs.Classes.{holds}
use Rattle.rules.specs.Date.{days_in, time}
use Rattle.rules.specs.Pieces.{Piece, count, fixed, free, number, run, word}
use Rattle.rules.specs.Sequence.{sequence}
use Rattle.rules.specs.Texts.{call_id}
use Rattle.rules.specs.declared.classes.Class.{Class}

-- how many letters a text and a word have in common from the start; and fixed letters, behind which K goes on
unfoldable pub common : List ℕ → List ℕ → ℕ
common [] w = 0
common (x ∷ t) [] = 0
common (x ∷ t) (y ∷ w) = cond (eqb x y) (suc (common t w)) 0

unfoldable pub fixed_reach : List ℕ → (List ℕ → ℕ) → List ℕ → ℕ
fixed_reach [] K u = K u
fixed_reach (b ∷ w) K [] = 0
fixed_reach (b ∷ w) K (x ∷ u) = cond (eqb x b) (suc (fixed_reach w K u)) 0

-- the least and the greatest number that v and m more digits can be, and whether one from lo to hi is between them
unfoldable pub low : ℕ → ℕ → ℕ
low zero v = v
low (suc m) v = low m (v * 10)

unfoldable pub top : ℕ → ℕ → ℕ
top zero v = v
top (suc m) v = top m (v * 10 + 9)

unfoldable pub meets : ℕ → ℕ → ℕ → ℕ → Bool
meets lo hi m v = leb lo (top m v) && leb (low m v) hi

-- how many of m more digits go on with a number that is v so far; and then K, by the number
unfoldable pub number_letters : ℕ → ℕ → ℕ → ℕ → List ℕ → ℕ
number_letters lo hi zero v u = 0
number_letters lo hi (suc m) v [] = 0
number_letters lo hi (suc m) v (x ∷ u) =
    cond (is_digit x && meets lo hi m (v * 10 + (x - 48))) (suc (number_letters lo hi m (v * 10 + (x - 48)) u)) 0

unfoldable pub number_reach : ℕ → ℕ → (ℕ → List ℕ → ℕ) → ℕ → ℕ → List ℕ → ℕ
number_reach lo hi K zero v u = K v u
number_reach lo hi K (suc m) v [] = 0
number_reach lo hi K (suc m) v (x ∷ u) =
    cond (is_digit x && meets lo hi m (v * 10 + (x - 48))) (suc (number_reach lo hi K m (v * 10 + (x - 48)) u)) 0

-- a letter may follow n letters of a run: there is room, it is of class c, and of class e where it is the first or the last that there is room for
unfoldable pub follows : ℕ → Class → Class → ℕ → ℕ → Bool
follows hi c e n x = ltb n hi && (holds c x && (holds e x || (not (eqb n 0) && not (eqb n (hi - 1)))))

-- how many letters follow the n of a run; and then K, where the run is whole: l says whether its last letter is of class e
unfoldable pub run_letters : ℕ → Class → Class → ℕ → List ℕ → ℕ
run_letters hi c e n [] = 0
run_letters hi c e n (x ∷ u) = cond (follows hi c e n x) (suc (run_letters hi c e (suc n) u)) 0

unfoldable pub run_reach : ℕ → ℕ → Class → Class → (List ℕ → ℕ) → ℕ → Bool → List ℕ → ℕ
run_reach lo hi c e K n l [] = cond (among lo hi n && l) (K []) 0
run_reach lo hi c e K n l (x ∷ u) =
    cond (follows hi c e n x) (suc (run_reach lo hi c e K (suc n) (holds e x) u)) (cond (among lo hi n && l) (K (x ∷ u)) 0)

-- how many digits go on with a number without leading zeros that is v so far; and then K
unfoldable pub count_letters : ℕ → ℕ → List ℕ → ℕ
count_letters hi v [] = 0
count_letters hi v (x ∷ u) = cond (is_digit x && among 1 hi (v * 10 + (x - 48))) (suc (count_letters hi (v * 10 + (x - 48)) u)) 0

unfoldable pub count_reach : ℕ → (List ℕ → ℕ) → ℕ → List ℕ → ℕ
count_reach hi K v [] = cond (ltb 0 v) (K []) 0
count_reach hi K v (x ∷ u) =
    cond (is_digit x && among 1 hi (v * 10 + (x - 48))) (suc (count_reach hi K (v * 10 + (x - 48)) u)) (cond (ltb 0 v) (K (x ∷ u)) 0)

-- of two rules, one of which is to be kept, the one that goes further decides; and so of some words
unfoldable pub words_reach : List (List ℕ) → List ℕ → ℕ
words_reach [] t = 0
words_reach (w ∷ ws) t = max (common t w) (words_reach ws t)

-- the text's end: no letter goes on
unfoldable pub end_reach : List ℕ → ℕ
end_reach u = 0

-- pieces one after the other
unfoldable pub reach_of : List Piece → List ℕ → ℕ
reach_of [] = end_reach
reach_of (fixed w ∷ ps) = fixed_reach w (reach_of ps)
reach_of (run lo hi c e ∷ ps) = run_reach lo hi c e (reach_of ps) 0 true
reach_of (number n lo hi ∷ ps) = number_reach lo hi (λ v. reach_of ps) n 0
reach_of (count hi ∷ ps) = count_reach hi (reach_of ps) 0
reach_of (word ws ∷ ps) = words_reach ws
reach_of (free ∷ ps) = length

-- the rules of the fields

unfoldable pub sequence_reach : List ℕ → ℕ
sequence_reach = reach_of sequence

unfoldable pub address_reach : List ℕ → ℕ
address_reach t = max (reach_of caller t) (reach_of callee t)

-- Date: the days go by the year and the month that were read
unfoldable pub day_reach : ℕ → ℕ → List ℕ → ℕ
day_reach y m = reach_of (fixed (ascii "-") ∷ number 2 1 (days_in y m) ∷ time)

unfoldable pub month_reach : ℕ → List ℕ → ℕ
month_reach y = fixed_reach (ascii "-") (number_reach 1 12 (day_reach y) 2 0)

unfoldable pub date_reach : List ℕ → ℕ
date_reach = number_reach 1 9999 month_reach 4 0

unfoldable pub call_id_reach : List ℕ → ℕ
call_id_reach = reach_of (call_id ∷ [])
