-- A known field is found by a guess and one comparison: every name's guess is its own number, so no other can be missed.
-- The table of guesses of `src/names.rt` is held to the names by one test. Assumes nothing.
use Prim.Native.Nat.{◌%◌, ◌*◌, ◌+◌, ◌-◌, ◌<◌, ◌≤◌, suc, ℕ}
use mathlib.Core.Bool.{Bool, ◌&&◌, false, true, cond}
use mathlib.Core.List.{List, ◌++◌, ◌∷◌, []}
use mathlib.Core.Path.{◌∙◌, ◌≡◌, ap, refl, sym}
use native.Mathlib.Omega.{arith}
use borrow.Author.Tests.{lt-ltb}
use lib.Dec.{T, eqb, eqb→eq, ltb, ltb→lt}
use lib.ListN.{get_or, length}
use Rattle.octets.proofs.TextLaws.{eq-same, same-eq}
use Rattle.octets.specs.Text.{same}
use Rattle.rules.proofs.Table.{and_left, and_right, at}
use Rattle.rules.specs.Names.{field_name, fields}
use Rattle.rules.specs.Pieces.{word_number_from, word_number}

abbrev pub guesses : List ℕ
guesses =
    0 ∷ 26 ∷ 21 ∷ 23 ∷ 0 ∷ 0 ∷ 0 ∷ 24 ∷ 0 ∷ 10 ∷ 0 ∷ 0 ∷ 0 ∷ 0 ∷ 0 ∷ 11 ∷ 0 ∷ 0 ∷ 0 ∷ 20 ∷ 19 ∷ 25 ∷ 7 ∷ 4 ∷ 16 ∷ 13
    ∷ 17 ∷ 0 ∷ 0 ∷ 14 ∷ 0 ∷ 0 ∷ 6 ∷ 0 ∷ 0 ∷ 0 ∷ 0 ∷ 0 ∷ 0 ∷ 0 ∷ 0 ∷ 0 ∷ 0 ∷ 15 ∷ 18 ∷ 0 ∷ 0 ∷ 0 ∷ 0 ∷ 0 ∷ 0 ∷ 0 ∷ 0
    ∷ 0 ∷ 1 ∷ 22 ∷ 0 ∷ 3 ∷ 9 ∷ 2 ∷ 12 ∷ 0 ∷ 5 ∷ 8 ∷ []

-- the number by which a name is guessed, and the guess
abbrev pub guess : List ℕ → ℕ
guess x = get_or guesses ((length x % 16 * 5 + get_or x 0 0 * 5 + get_or x (length x - 1) 0 * 3) % 64) 0

right : ℕ → Bool
right k = eqb (guess (field_name k)) k && eqb (word_number fields (field_name k)) k

pub record Row (k : ℕ) : Type 0 where
  pub guessed : guess (field_name k) ≡ k
  pub placed : word_number fields (field_name k) ≡ k

-- each field's number and name, there and back
pub row : (k : ℕ) → k < 27 → Row k
unfolding right field_name word_number_from same
row k h =
    let g = eqb (guess (field_name k)) k in
    let p = eqb (word_number fields (field_name k)) k in
    let t : T (g && p) = at right 27 tt k h in
    record { guessed = eqb→eq _ _ (and_left g p t); placed = eqb→eq _ _ (and_right g p t) }

small : ℕ → Bool
small i = ltb (get_or guesses i 0) 27

-- a guess is a field's number, or 0
pub guess_small : (i : ℕ) → get_or guesses (i % 64) 0 < 27
unfolding small
guess_small i = ltb→lt _ _ (at small 64 tt (i % 64) (omega arith))

-- a word that is found is the word of that number
pub data Placed (ws : List (List ℕ)) (k : ℕ) (x : List ℕ) (n : ℕ) : Type 0 where
  none : n ≡ 0 → Placed ws k x n
  nth : (j : ℕ) → n ≡ k + j → j < length ws → x ≡ get_or ws j [] → Placed ws k x n

later : (w : List ℕ) (ws : List (List ℕ)) (k : ℕ) (x : List ℕ) (n : ℕ) → Placed ws (k + 1) x n → Placed (w ∷ ws) k x n
later w ws k x n (none e) = none e
later w ws k x n (nth j e h q) = nth (suc j) (omega arith) (omega arith) q

first : (w : List ℕ) (ws : List (List ℕ)) (k : ℕ) (x : List ℕ) (n : ℕ) (t : Bool) → same x w ≡ t → Placed ws (k + 1) x n → Placed (w ∷ ws) k x (cond t k n)
first w ws k x n true e f = nth 0 (omega arith) (omega arith) (same-eq x w e)
first w ws k x n false e f = later w ws k x n f

pub found : (ws : List (List ℕ)) (k : ℕ) (x : List ℕ) → Placed ws k x (word_number_from ws k x)
unfolding word_number_from
found [] k x = none refl
found (w ∷ ws) k x = first w ws k x (word_number_from ws (k + 1) x) (same x w) refl (found ws (k + 1) x)

-- a word's number is at most the number of words
pub place-below : (ws : List (List ℕ)) (x : List ℕ) → word_number ws x ≤ length ws
place-below ws x = go (word_number ws x) (found ws 1 x)
  where
    go : (n : ℕ) → Placed ws 1 x n → n ≤ length ws
    go n (none e) = omega arith
    go n (nth j e h q) = omega arith

-- whether a text is one of the words does not depend on the number of the first
pub some_number : (ws : List (List ℕ)) (j k : ℕ) (x : List ℕ) → 0 < j → 0 < k → ltb 0 (word_number_from ws j x) ≡ ltb 0 (word_number_from ws k x)
unfolding word_number_from
some_number [] j k x h g = refl
some_number (w ∷ ws) j k x h g = by (same x w) (some_number ws (j + 1) (k + 1) x (omega arith) (omega arith))
  where
    by : (t : Bool) → ltb 0 (word_number_from ws (j + 1) x) ≡ ltb 0 (word_number_from ws (k + 1) x)
        → ltb 0 (cond t j (word_number_from ws (j + 1) x)) ≡ ltb 0 (cond t k (word_number_from ws (k + 1) x))
    by true e = rw (lt-ltb 0 j h, lt-ltb 0 k g)
    by false e = e

-- the number among words and others behind them
pub number-before : (ws vs : List (List ℕ)) (k : ℕ) (x : List ℕ) → (word_number_from ws k x ≡ 0 → ⊥) → word_number_from (ws ++ vs) k x ≡ word_number_from ws k x
unfolding word_number_from
number-before [] vs k x e = absurd (e refl)
number-before (w ∷ ws) vs k x e = by (same x w) e (number-before ws vs (k + 1) x)
  where
    by : (t : Bool) → (cond t k (word_number_from ws (k + 1) x) ≡ 0 → ⊥)
        → ((word_number_from ws (k + 1) x ≡ 0 → ⊥) → word_number_from (ws ++ vs) (k + 1) x ≡ word_number_from ws (k + 1) x)
        → cond t k (word_number_from (ws ++ vs) (k + 1) x) ≡ cond t k (word_number_from ws (k + 1) x)
    by true e f = refl
    by false e f = f e

pub number_behind : (ws vs : List (List ℕ)) (k : ℕ) (x : List ℕ) → 0 < k → word_number_from ws k x ≡ 0 → word_number_from (ws ++ vs) k x ≡ word_number_from vs (k + length ws) x
unfolding word_number_from
number_behind [] vs k x h e = ap (λ (n : ℕ). word_number_from vs n x) (omega arith)
number_behind (w ∷ ws) vs k x h e = by (same x w) e (number_behind ws vs (k + 1) x (omega arith))
  where
    by : (t : Bool) → cond t k (word_number_from ws (k + 1) x) ≡ 0
        → (word_number_from ws (k + 1) x ≡ 0 → word_number_from (ws ++ vs) (k + 1) x ≡ word_number_from vs (k + 1 + length ws) x)
        → cond t k (word_number_from (ws ++ vs) (k + 1) x) ≡ word_number_from vs (k + suc (length ws)) x
    by true e f = absurd (omega (arith, h, e))
    by false e f = f e ∙ ap (λ (n : ℕ). word_number_from vs n x) (omega arith)

module _ (x : List ℕ) (k : ℕ) (small : k < 27) where
  pub is_name : same x (field_name k) ≡ true → k ≡ word_number fields x
  is_name e = sym (rw (same-eq x (field_name k) e) (row k small).placed)

-- where the guess is not the name, no other name is
lost : (x : List ℕ) (n : ℕ) → Placed fields 1 x n → same x (field_name (guess x)) ≡ false → 0 ≡ n
unfolding field_name
lost x n (none e) f = sym e
lost x n (nth j e h q) f =
    let w : x ≡ field_name (suc j) = q in
    let g : guess x ≡ suc j = ap guess w ∙ (row (suc j) (omega arith)).guessed in
    let y : same x (field_name (guess x)) ≡ true = eq-same x (field_name (guess x)) (w ∙ ap field_name (sym g)) in
    let z : ◌≡◌ {A = Bool} true false = sym y ∙ f in
    cc

pub no_name : (x : List ℕ) (k : ℕ) → k ≡ guess x → same x (field_name k) ≡ false → 0 ≡ word_number fields x
no_name x k g f = lost x (word_number fields x) (found fields 1 x) (rw g at f)

-- the guess as the code computes it
pub guess-is : (x : List ℕ) (a l b : ℕ) → a ≡ get_or x 0 0 → l ≡ length x - 1 → b ≡ get_or x l 0 → get_or guesses ((length x % 16 * 5 + a * 5 + b * 3) % 64) 0 ≡ guess x
guess-is x a l b p q r = rw (p, r, q)
