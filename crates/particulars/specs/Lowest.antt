-- Faults by their places, of which the lowest answers. What the contracts of the crate cite. Assumes nothing.
use Rattle.std.specs.Prelude.{ℕ, leb, Bool, true, false, cond, List, [], ◌∷◌, Option, Some, None}

-- the lower of two places, either of which may be missing
unfoldable pub lower : Option ℕ → Option ℕ → Option ℕ
lower None b = b
lower (Some p) None = Some p
lower (Some p) (Some q) = Some (cond (leb p q) p q)

-- the lowest of these places; none where there are none
unfoldable pub lowest : List ℕ → Option ℕ
lowest [] = None
lowest (p ∷ ps) = lower (Some p) (lowest ps)

-- there is no fault
unfoldable pub is_sound : List ℕ → Bool
is_sound [] = true
is_sound (p ∷ ps) = false

-- a place, or 0 for none
abbrev pub or_zero : Option ℕ → ℕ
or_zero None = 0
or_zero (Some p) = p

-- the place that answers; 0 where there is none
unfoldable pub lowest_place : List ℕ → ℕ
lowest_place ps = or_zero (lowest ps)
