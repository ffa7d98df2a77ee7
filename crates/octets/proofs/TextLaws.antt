-- What stands in a text, and laws of `same` and `before`: what the tests mean, and one byte at a time for the loops. Assumes nothing.
use Prim.Native.Nat.{ℕ, zero, suc, min, ◌≤◌, ◌<◌, ◌+◌, ◌-◌}
use Rattle.std.proofs.lemmas.List.{drop_min}
use mathlib.Core.Logic.{inl, inr}
use Rattle.octets.proofs.TestLaws.{Either, and_parts, clash, either, fails, or-none}
use Rattle.octets.specs.Text.{before, here, same, stands_at}
use Rattle.std.specs.List.{list_any, position, position_or_len}
use Rattle.std.specs.Option.{unwrap_or}
use Rattle.std.proofs.Common.{None, Option, Some}
use native.Mathlib.Decide.{dec_lt}
use borrow.Author.Tests.{eq-eqb, eqb-true, le-ltb, lt-ltb}
use lib.Dec.{eqb, ltb}
use lib.ListN.{length, take, drop, get_or, length-drop}
use lib.Seq.{drop-drop, take_all}
use mathlib.Core.Bool.{Bool, true, false, cond, not}
use mathlib.Core.List.{List, [], ◌∷◌}
use mathlib.Core.Path.{◌≡◌, refl, ap, sym, ◌∙◌}
use native.Mathlib.Omega.{arith}

-- a byte that is not 0 stands in the text
pub there : (s : List ℕ) (i b : ℕ) → get_or s i 0 ≡ suc b → i < length s
there [] i b e = absurd (omega (arith, e))
there (x ∷ xs) zero b e = omega arith
there (x ∷ xs) (suc i) b e = omega (arith, there xs i b e)

-- the test means equality
pub same-eq : (a b : List ℕ) → same a b ≡ true → a ≡ b
unfolding same
same-eq [] [] e = refl
same-eq [] (y ∷ ys) e = cc
same-eq (x ∷ xs) [] e = cc
same-eq (x ∷ xs) (y ∷ ys) e =
    let p = and_parts (eqb x y) (same xs ys) e in
    let h : x ≡ y = eqb-true x y p.0 in
    let t : xs ≡ ys = same-eq xs ys p.1 in
    cc

pub same_self : (a : List ℕ) → same a a ≡ true
unfolding same
same_self [] = refl
same_self (x ∷ xs) = rw (eq-eqb x x refl) (same_self xs)

pub eq-same : (a b : List ℕ) → a ≡ b → same a b ≡ true
eq-same a b e = rw e (same_self b)

pub ne_same : (a b : List ℕ) → (a ≡ b → ⊥) → same a b ≡ false
ne_same a b ne = fails (same a b) (λ e. ne (same-eq a b e))

-- texts of two lengths differ
pub length-same : (a b : List ℕ) → (length a ≡ length b → ⊥) → same a b ≡ false
length-same a b h = ne_same a b (λ e. h (ap length e))

-- a run without the byte is passed
before_run : (b n : ℕ) (s : List ℕ) → n ≤ length s → list_any (λ x. eqb x b) (take n s) ≡ false → before b s ≡ n + before b (drop n s)
unfolding before
before_run b zero s h e = omega arith
before_run b (suc n) [] h e = absurd (omega arith)
before_run b (suc n) (x ∷ s) h e =
    let p = or-none (eqb x b) (list_any (λ x. eqb x b) (take n s)) e in
    let r = before_run b n s (omega arith) p.1 in
    rw p.0 (omega arith)

pub before_past : (b n : ℕ) (s : List ℕ) (i : ℕ) → i + n ≤ length s → list_any (λ x. eqb x b) (take n (drop i s)) ≡ false
    → i + before b (drop i s) ≡ i + n + before b (drop (i + n) s)
before_past b n s i h e =
    let r = before_run b n (drop i s) (rw length-drop (omega arith)) e in
    let d : drop n (drop i s) ≡ drop (i + n) s = drop-drop n i s in
    rw (r, d) (omega arith)

-- a byte is found at the length at the latest
pub before-within : (b : ℕ) (s : List ℕ) → before b s ≤ length s
unfolding before
before-within b [] = omega arith
before-within b (x ∷ s) = go (eqb x b) refl (before-within b s)
  where
    go : (t : Bool) → eqb x b ≡ t → before b s ≤ length s → before b (x ∷ s) ≤ length (x ∷ s)
    go true e h = rw e (omega arith)
    go false e h = rw e (omega arith)

-- `before` is where the library's `position` stops
before_position : (b : ℕ) (s : List ℕ) → position_or_len (λ x. eqb x b) s ≡ before b s
unfolding before
before_position b [] = refl
before_position b (x ∷ s) = by (eqb x b) (before_position b s)
  where
    by : (t : Bool) → position_or_len (λ x. eqb x b) s ≡ before b s → cond (not t) (1 + position_or_len (λ x. eqb x b) s) 0 ≡ here t (before b s)
    by true h = refl
    by false h = omega arith

-- what the library's search answers, and the length where it finds none
pub before_or_all : (b : ℕ) (s : List ℕ) {r : Option ℕ} → r ≡ position (λ x. eqb x b) s → unwrap_or r (length s) ≡ before b s
before_or_all b s e = rw (e, before_position b s) (by (before b s) (before-within b s) (dec_lt (before b s) (length s)))
  where
    by : (n : ℕ) → n ≤ length s → Dec (n < length s) → unwrap_or (cond (ltb n (length s)) (Some n) None) (length s) ≡ n
    by n h (yes a) = rw (lt-ltb n (length s) a)
    by n h (no a) = rw (le-ltb n (length s) (omega arith)) (omega arith)

pub found_within : (b : ℕ) (s : List ℕ) (i : ℕ) → i ≤ length s → i + before b (drop i s) ≤ length s
found_within b s i h = omega (arith, before-within b (drop i s), length-drop i s)

same-swapped : (a b : List ℕ) → same a b ≡ same b a
same-swapped a b = by (either (same a b))
  where
    by : Either (same a b) → same a b ≡ same b a
    by (inl e) = e ∙ sym (eq-same b a (sym (same-eq a b e)))
    by (inr e) = e ∙ sym (fails (same b a) (λ f. clash (eq-same a b (sym (same-eq b a f))) e))

-- what stands in a text is what its rest from there on begins with, of whatever length that is given to be
pub begins-stands : (s w : List ℕ) (at n : ℕ) → n ≡ length s - min at (length s) → same w (take (length w) (take n (drop (min at (length s)) s))) ≡ stands_at s at w
unfolding stands_at
begins-stands s w at n e =
    let l : take n (drop (min at (length s)) s) ≡ drop (min at (length s)) s = take_all n _ (rw length-drop (omega arith)) in
    rw (l, drop_min at s) (same-swapped w (take (length w) (drop at s)))
