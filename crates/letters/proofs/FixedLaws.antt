-- The reach of fixed letters, of one of some words, and of the end. Assumes nothing.
use Prim.Native.Nat.{ℕ, max, suc, ◌+◌}
use Rattle.letters.proofs.Reaches.{Reaches, at-end, at-letter, either_reaches, opens, past-letter, same_reaches}
use Rattle.letters.specs.BadLetter.{Begins}
use Rattle.letters.specs.inner.Reach.{common, end_reach, fixed_reach, words_reach}
use Rattle.letters.specs.inner.Rest.{end_rest, fixed_rest}
use Rattle.octets.proofs.TestLaws.{Either, either}
use Rattle.octets.proofs.TextLaws.{same_self}
use Rattle.octets.specs.Text.{same}
use Rattle.rules.specs.Pieces.{word_number_from}
use borrow.Author.Tests.{eq-eqb, lt-ltb}
use lib.Dec.{eqb, ltb}
use mathlib.Core.Bool.{Bool, true, false, ◌||◌, cond}
use mathlib.Core.List.{List, [], ◌∷◌}
use mathlib.Core.Logic.{inl, inr}
use mathlib.Core.Path.{◌≡◌, refl}
use native.Mathlib.Omega.{arith}

nothing : Begins end_rest []
unfolding end_rest
nothing = record { rest = []; allowed = refl }

pub end_reaches : (t : List ℕ) → Reaches end_rest t (end_reach t)
unfolding end_rest end_reach
end_reaches [] = at-end nothing
end_reaches (x ∷ t) = at-letter nothing (λ u. refl)

module _ {Q : List ℕ → Bool} {K : List ℕ → ℕ} (goes : (t : List ℕ) → Reaches Q t (K t)) where
  fixed-opens : (w : List ℕ) → Begins (fixed_rest w Q) []
  unfolding fixed_rest
  fixed-opens [] = opens (goes [])
  fixed-opens (b ∷ w) = let r = fixed-opens w in record { rest = b ∷ r.rest; allowed = rw (eq-eqb b b refl) r.allowed }

  pub fixed_reaches : (w t : List ℕ) → Reaches (fixed_rest w Q) t (fixed_reach w K t)
  unfolding fixed_rest fixed_reach
  fixed_reaches [] t = goes t
  fixed_reaches (b ∷ w) [] = at-end (fixed-opens (b ∷ w))
  fixed_reaches (b ∷ w) (x ∷ t) = go (either (eqb x b)) (fixed_reaches w t)
    where
      go : Either (eqb x b) → Reaches (fixed_rest w Q) t (fixed_reach w K t) → Reaches (fixed_rest (b ∷ w) Q) (x ∷ t) (fixed_reach (b ∷ w) K (x ∷ t))
      go (inl e) r = rw e (past-letter (λ u. rw e) r)
      go (inr e) r = rw e (at-letter (fixed-opens (b ∷ w)) (λ u. rw e))

-- one word: as far as the text goes along with it
word-opens : (w : List ℕ) → Begins (λ t. same t w) []
word-opens w = record { rest = w; allowed = same_self w }

word_reaches : (t w : List ℕ) → Reaches (λ t. same t w) t (common t w)
unfolding same common
word_reaches [] w = at-end (word-opens w)
word_reaches (x ∷ t) [] = at-letter (word-opens []) (λ u. refl)
word_reaches (x ∷ t) (y ∷ w) = go (either (eqb x y)) (word_reaches t w)
  where
    go : Either (eqb x y) → Reaches (λ t. same t w) t (common t w) → Reaches (λ t. same t (y ∷ w)) (x ∷ t) (common (x ∷ t) (y ∷ w))
    go (inl e) r = rw e (past-letter (λ u. rw e) r)
    go (inr e) r = rw e (at-letter (word-opens (y ∷ w)) (λ u. rw e))

-- some words: the furthest of them
abbrev word_rule : List (List ℕ) → ℕ → List ℕ → Bool
word_rule ws k t = ltb 0 (word_number_from ws (suc k) t)

one_word : (w : List ℕ) (k : ℕ) (t : List ℕ) → word_rule (w ∷ []) k t ≡ same t w
unfolding word_number_from
one_word w k t = go (same t w)
  where
    go : (b : Bool) → ltb 0 (cond b (suc k) 0) ≡ b
    go true = lt-ltb 0 (suc k) (omega arith)
    go false = refl

more_words : (w : List ℕ) (ws : List (List ℕ)) (k : ℕ) (t : List ℕ) → word_rule (w ∷ ws) k t ≡ (same t w || word_rule ws (suc k) t)
unfolding word_number_from
more_words w ws k t = rw (let e : suc k + 1 ≡ suc (suc k) = omega arith in e) (go (same t w))
  where
    go : (b : Bool) → ltb 0 (cond b (suc k) (word_number_from ws (suc (suc k)) t)) ≡ (b || ltb 0 (word_number_from ws (suc (suc k)) t))
    go true = lt-ltb 0 (suc k) (omega arith)
    go false = refl

pub words_reach_lem : (w : List ℕ) (ws : List (List ℕ)) (k : ℕ) (t : List ℕ) → Reaches (word_rule (w ∷ ws) k) t (words_reach (w ∷ ws) t)
unfolding words_reach
words_reach_lem w [] k t = rw (let z : max (common t w) 0 ≡ common t w = omega arith in z) (same_reaches (one_word w k) (word_reaches t w))
words_reach_lem w (v ∷ ws) k t =
    same_reaches (more_words w (v ∷ ws) k) (either_reaches (λ t. same t w) (word_rule (v ∷ ws) (suc k)) (word_reaches t w) (words_reach_lem v ws (suc k) t))
