-- Code points: one for each number, and those of two texts together. Assumes nothing.
use Prim.Native.Nat.{ℕ, suc, ◌+◌, ◌/◌, ◌≤◌, ◌<◌}
use Rattle.escapes.proofs.EncodingLaws.{Row, row, row_one, row-two, row-three, row-four, one, two, three, four}
use Rattle.escapes.specs.Encoding.{encoded, low}
use Rattle.octets.proofs.ClassLaws.{in_among, among-low, among-high}
use Rattle.octets.proofs.TestLaws.{Either, either}
use Rattle.rules.specs.Texts.{begins_point, points}
use lib.ListN.{length}
use mathlib.Core.Bool.{Bool, true, false, cond}
use mathlib.Core.List.{List, [], ◌∷◌, ◌++◌}
use mathlib.Core.Logic.{inl, inr}
use mathlib.Core.Path.{◌≡◌}
use native.Mathlib.Omega.{arith}

-- the points of texts joined are the sum
pub points-append : (a b : List ℕ) → points (a ++ b) ≡ points a + points b
unfolding points
points-append [] b = omega arith
points-append (x ∷ a) b = go (points-append a b) (either (begins_point x))
  where
    go : points (a ++ b) ≡ points a + points b → Either (begins_point x) → points ((x ∷ a) ++ b) ≡ points (x ∷ a) + points b
    go r (inl e) = rw e (omega arith)
    go r (inr e) = rw e r

-- no text has more points than bytes
pub points-within : (s : List ℕ) → points s ≤ length s
unfolding points
points-within [] = omega arith
points-within (x ∷ s) = go (begins_point x) (points-within s)
  where
    go : (t : Bool) → points s ≤ length s → cond t (suc (points s)) (points s) ≤ suc (length s)
    go true h = omega arith
    go false h = omega arith

-- Which bytes begin one.

begins-low : (b : ℕ) → b < 128 → begins_point b ≡ true
unfolding begins_point
begins-low b h = rw (among-low 128 191 b h)

begins-high : (b : ℕ) → 191 < b → begins_point b ≡ true
unfolding begins_point
begins-high b h = rw (among-high 128 191 b (omega arith) h)

begins-none : (x : ℕ) → begins_point (low x) ≡ false
unfolding begins_point
begins-none x = rw (in_among 128 191 (low x) (omega arith) (omega arith))

-- a number is one point, however it is encoded
pub one-point : (c : ℕ) → points (encoded c) ≡ 1
unfolding points
one-point c = go (row c)
  where
    go : Row c → points (encoded c) ≡ 1
    go (row_one h) = rw (one c h, begins-low c h)
    go (row-two h k) = rw (two c h k, begins-high (0xC0 + c / 64) (omega arith), begins-none c)
    go (row-three h k) = rw (three c h k, begins-high (0xE0 + c / 4096) (omega arith), begins-none (c / 64), begins-none c)
    go (row-four h) = rw (four c h, begins-high (0xF0 + c / 262144) (omega arith), begins-none (c / 4096), begins-none (c / 64), begins-none c)
