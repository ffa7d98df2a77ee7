-- Coordinates on both sides of the rule, computed from the definition. Assumes nothing.
use Rattle.coordinates.specs.Coordinate.{coordinate_of, decimals, has_minus, is_spelled, millionths_of, to_six, unsigned, whole}
use Rattle.octets.specs.Ascii.{ascii}
use Rattle.octets.specs.Class.{all, among, digits_rule, is_digit}
use Rattle.octets.specs.Decimal.{tens}
use Rattle.octets.specs.Text.{before}
use Rattle.std.proofs.Common.{None, Some}
use lib.IntN.{neg_ℤ, pos}
use mathlib.Core.Path.{◌≡◌, refl}

-- 35.5 degrees are 35,500,000 millionths; minus zero is zero
pub numbers :
    (coordinate_of 90 (ascii "35.5") ≡ Some (pos 35500000))
    × (coordinate_of 90 (ascii "-0.000001") ≡ Some (neg_ℤ (pos 1)))
    × (coordinate_of 90 (ascii "-0") ≡ Some (pos 0))
unfolding coordinate_of has_minus unsigned whole decimals is_spelled to_six millionths_of digits_rule before all among is_digit tens
numbers = (refl, refl, refl)

-- the bound is within, and one millionth more is not
pub bounds :
    (coordinate_of 90 (ascii "90.000000") ≡ Some (pos 90000000))
    × (coordinate_of 90 (ascii "90.000001") ≡ None)
    × (coordinate_of 180 (ascii "-180") ≡ Some (neg_ℤ (pos 180000000)))
    × (coordinate_of 180 (ascii "180.000001") ≡ None)
unfolding coordinate_of has_minus unsigned whole decimals is_spelled to_six millionths_of digits_rule before all among is_digit tens
bounds = (refl, refl, refl, refl)

-- seven decimals, though the last is a zero; an exponent; a point without digits behind or before it
pub spellings :
    (coordinate_of 90 (ascii "1.0000000") ≡ None)
    × (coordinate_of 90 (ascii "1e1") ≡ None)
    × (coordinate_of 90 (ascii "35.") ≡ None)
    × (coordinate_of 90 (ascii ".5") ≡ None)
unfolding coordinate_of has_minus unsigned whole decimals is_spelled to_six millionths_of digits_rule before all among is_digit tens
spellings = (refl, refl, refl, refl)
