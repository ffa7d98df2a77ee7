-- Tests, and what is known of two where both are asked, or either: beside the library's laws (mathlib.Core.Bool, borrow.Author.Tests). Assumes nothing.
use mathlib.Core.Bool.{Bool, true, false, ◌&&◌, ◌||◌, cond, true≢false}
use mathlib.Core.Logic.{◌⊎◌, inl, inr}
use mathlib.Core.Path.{◌≡◌, refl, sym, ◌∙◌}

-- a test passes or fails, and does not do both
abbrev pub Either : Bool → Type 0
Either b = (b ≡ true) ⊎ (b ≡ false)

pub either : (b : Bool) → Either b
either true = inl refl
either false = inr refl

pub clash : {A : Type 0} {b : Bool} → b ≡ true → b ≡ false → A
clash p q = absurd (true≢false (sym p ∙ q))

-- one that cannot pass fails
pub fails : (b : Bool) → (b ≡ true → ⊥) → b ≡ false
fails true h = absurd (h refl)
fails false h = refl

-- both
pub and_both : {a b : Bool} → a ≡ true → b ≡ true → (a && b) ≡ true
and_both p q = rw (p, q)

pub and_parts : (a b : Bool) → (a && b) ≡ true → (a ≡ true) × (b ≡ true)
and_parts true b e = (refl, e)
and_parts false b e = clash e refl

pub and_left : (a b : Bool) → (a && b) ≡ true → a ≡ true
and_left a b e = (and_parts a b e).0

pub and_right : (a b : Bool) → (a && b) ≡ true → b ≡ true
and_right a b e = (and_parts a b e).1

-- either
pub or_split : (a b : Bool) → (a || b) ≡ true → (a ≡ true) ⊎ (b ≡ true)
or_split true b e = inl refl
or_split false b e = inr e

pub or-none : (a b : Bool) → (a || b) ≡ false → (a ≡ false) × (b ≡ false)
or-none true b e = clash refl e
or-none false b e = (refl, e)

-- what holds of both ways out holds of the one that a test picks; and of two that it picks alike
pub picked : {A : Type 0} {x y : A} (P : A → Type 0) (b : Bool) → P x → P y → P (cond b x y)
picked P true p q = p
picked P false p q = q

pub picked-alike : {A B : Type 0} {x y : A} {x' y' : B} (R : A → B → Type 0) (b : Bool) → R x x' → R y y' → R (cond b x y) (cond b x' y')
picked-alike R true p q = p
picked-alike R false p q = q
