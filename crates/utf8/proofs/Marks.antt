-- RFC 3629 on both sides of its bounds (01 Reading, row 3), computed: a wrong octet in the syntax fails here. Assumes nothing.
use Rattle.std.proofs.Common.{Ok, Err}
use Rattle.octets.specs.Class.{among}
use Rattle.utf8.specs.Rfc3629.{begins, char_at, goes_on, octets, verdict}
use mathlib.Core.List.{[], ◌∷◌}
use mathlib.Core.Path.{◌≡◌, refl}

-- 80 hex is the first code point of two octets, 800 of three, 10000 of four; 7F, 7FF and FFFF in one octet more are overlong
pub overlong :
    (verdict (0xC1 ∷ 0xBF ∷ []) ≡ Err 0)
    × (verdict (0xC2 ∷ 0x80 ∷ []) ≡ Ok tt)
    × (verdict (0xE0 ∷ 0x9F ∷ 0xBF ∷ []) ≡ Err 0)
    × (verdict (0xE0 ∷ 0xA0 ∷ 0x80 ∷ []) ≡ Ok tt)
    × (verdict (0xF0 ∷ 0x8F ∷ 0xBF ∷ 0xBF ∷ []) ≡ Err 0)
    × (verdict (0xF0 ∷ 0x90 ∷ 0x80 ∷ 0x80 ∷ []) ≡ Ok tt)
unfolding octets char_at begins goes_on among
overlong = (refl, refl, refl, refl, refl, refl)

-- D7FF yes, the surrogates D800 and DFFF no, E000 yes
pub surrogates :
    (verdict (0xED ∷ 0x9F ∷ 0xBF ∷ []) ≡ Ok tt)
    × (verdict (0xED ∷ 0xA0 ∷ 0x80 ∷ []) ≡ Err 0)
    × (verdict (0xED ∷ 0xBF ∷ 0xBF ∷ []) ≡ Err 0)
    × (verdict (0xEE ∷ 0x80 ∷ 0x80 ∷ []) ≡ Ok tt)
unfolding octets char_at begins goes_on among
surrogates = (refl, refl, refl, refl)

-- 10FFFF yes, 110000 no
pub last : (verdict (0xF4 ∷ 0x8F ∷ 0xBF ∷ 0xBF ∷ []) ≡ Ok tt) × (verdict (0xF4 ∷ 0x90 ∷ 0x80 ∷ 0x80 ∷ []) ≡ Err 0)
unfolding octets char_at begins goes_on among
last = (refl, refl)

-- the place is the first byte of the first bad sequence, also of one that stops short
pub places : (verdict (0x61 ∷ 0xC2 ∷ 0x80 ∷ 0xFF ∷ 0xFF ∷ []) ≡ Err 3) × (verdict (0x61 ∷ 0xE3 ∷ 0x81 ∷ []) ≡ Err 1)
unfolding octets char_at begins goes_on among
places = (refl, refl)
