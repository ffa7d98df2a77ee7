-- A rule of a table, proved at all of its entries by one test that antt computes, one entry after the other. Assumes nothing.
use Prim.Native.Nat.{◌+◌, ◌<◌, suc, zero, ℕ}
use mathlib.Core.Bool.{Bool, ◌&&◌, false, true}
use mathlib.Core.List.{List, ◌∷◌, []}
use mathlib.Core.Path.{◌∙◌, ◌≡◌, refl, subst, sym}
use native.Mathlib.Nat.{add-suc, add-zero, suc-add, zero-add}
use native.Mathlib.Omega.{arith}
use lib.Dec.{T, eqb, eqb→eq}

pub and_left : (a b : Bool) → T (a && b) → T a
and_left true b t = tt
and_left false b t = t

pub and_right : (a b : Bool) → T (a && b) → T b
and_right true b t = t
and_right false b t = absurd t

-- the test f passes at each of the n numbers from i on
abbrev pub every : (ℕ → Bool) → ℕ → ℕ → Bool
every f i zero = true
every f i (suc n) = f i && every f (suc i) n

from : (f : ℕ → Bool) (n i : ℕ) → T (every f i n) → (k : ℕ) → k < n → T (f (i + k))
from f zero i t k h = absurd (omega arith)
from f (suc n) i t zero h = subst (λ (m : ℕ). T (f m)) (sym (add-zero i)) (and_left (f i) (every f (suc i) n) t)
from f (suc n) i t (suc k) h =
    subst (λ (m : ℕ). T (f m)) (suc-add i k ∙ sym (add-suc i k))
    (from f n (suc i) (and_right (f i) (every f (suc i) n) t) k (omega arith))

pub at : (f : ℕ → Bool) (n : ℕ) → T (every f 0 n) → (k : ℕ) → k < n → T (f k)
at f n t k h = subst (λ (m : ℕ). T (f m)) (zero-add k) (from f n 0 t k h)

-- two texts compared by a test that computes
abbrev pub equal : List ℕ → List ℕ → Bool
equal [] [] = true
equal [] (y ∷ ys) = false
equal (x ∷ xs) [] = false
equal (x ∷ xs) (y ∷ ys) = eqb x y && equal xs ys

pub equal_is : (a b : List ℕ) → T (equal a b) → a ≡ b
equal_is [] [] t = refl
equal_is [] (y ∷ ys) t = absurd t
equal_is (x ∷ xs) [] t = absurd t
equal_is (x ∷ xs) (y ∷ ys) t =
    let e : x ≡ y = eqb→eq x y (and_left (eqb x y) (equal xs ys) t) in
    let f : xs ≡ ys = equal_is xs ys (and_right (eqb x y) (equal xs ys) t) in
    cc
