-- The lowest place: of places together it is the lower of those of either part, however they are put together. Assumes nothing.
use Prim.Native.Nat.{ℕ}
use Rattle.particulars.specs.Lowest.{is_sound, lower, lowest, lowest_place, or_zero}
use Rattle.std.specs.Prelude.{None, Option, Some}
use borrow.Author.Tests.{leb-true, leb-false}
use lib.Dec.{leb}
use mathlib.Core.Bool.{Bool, true, false, cond}
use mathlib.Core.List.{List, [], ◌∷◌, ◌++◌}
use mathlib.Core.Path.{◌≡◌, ap, refl, sym, ◌∙◌}
use native.Mathlib.Omega.{arith}

pub lower-none : (a : Option ℕ) → lower a None ≡ a
unfolding lower
lower-none None = refl
lower-none (Some p) = refl

three : (p q r : ℕ) → lower (lower (Some p) (Some q)) (Some r) ≡ lower (Some p) (lower (Some q) (Some r))
unfolding lower
three p q r = by (leb p q) (leb q r) (leb p r) refl refl refl
  where
    by : (x y z : Bool) → leb p q ≡ x → leb q r ≡ y → leb p r ≡ z
        → ◌≡◌ {A = Option ℕ} (Some (cond (leb (cond x p q) r) (cond x p q) r)) (Some (cond (leb p (cond y q r)) p (cond y q r)))
    by true true true e f g = rw (e, g)
    by true true false e f g = let a = leb-true p q e in let b = leb-true q r f in let d = leb-false p r g in absurd (omega arith)
    by true false true e f g = rw g
    by true false false e f g = rw g
    by false true true e f g = rw (e, f)
    by false true false e f g = rw (e, f)
    by false false true e f g = let a = leb-false p q e in let b = leb-false q r f in let d = leb-true p r g in absurd (omega arith)
    by false false false e f g = rw (f, g)

pub lower-assoc : (a b c : Option ℕ) → lower (lower a b) c ≡ lower a (lower b c)
unfolding lower
lower-assoc None b c = refl
lower-assoc (Some p) None c = refl
lower-assoc (Some p) (Some q) None = refl
lower-assoc (Some p) (Some q) (Some r) = three p q r

pub lowest-append : (a b : List ℕ) → lowest (a ++ b) ≡ lower (lowest a) (lowest b)
unfolding lowest lower
lowest-append [] b = refl
lowest-append (p ∷ a) b = ap (lower (Some p)) (lowest-append a b) ∙ sym (lower-assoc (Some p) (lowest a) (lowest b))

pub lowest-one : (p : ℕ) → lowest (p ∷ []) ≡ Some p
unfolding lowest lower
lowest-one p = refl

-- by what was found: nothing, or the place that answers
none-by : (o : Option ℕ) (p : ℕ) → None ≡ lower (Some p) o → ⊥
unfolding lower
none-by None p e = let z : ◌≡◌ {A = ℕ} 0 1 = cc in omega arith
none-by (Some q) p e = let z : ◌≡◌ {A = ℕ} 0 1 = cc in omega arith

pub sound : (l : List ℕ) → None ≡ lowest l → is_sound l ≡ true
unfolding lowest is_sound
sound [] e = refl
sound (p ∷ l) e = absurd (none-by (lowest l) p e)

pub unsound : (l : List ℕ) {p : ℕ} → Some p ≡ lowest l → (is_sound l ≡ false) × (p ≡ lowest_place l)
unfolding lowest is_sound lowest_place
unsound [] e = absurd (let z : ◌≡◌ {A = ℕ} 0 1 = cc in omega arith)
unsound (q ∷ l) e = (refl, ap or_zero e)
