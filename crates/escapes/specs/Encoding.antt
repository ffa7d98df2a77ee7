-- RFC 3629, section 3: the octets of a character number, the table's four rows. A surrogate, which is no character, gets the octets of its row
-- too, which UTF-8 forbids: `is_broken` of Rfc7159.antt says where one is met. No escape spells a number above 10FFFF hex. Assumes nothing.
use Rattle.std.specs.Prelude.{ℕ, ◌+◌, ◌/◌, ◌%◌, ltb, cond, List, [], ◌∷◌}

-- 10xxxxxx
abbrev pub low : ℕ → ℕ
low x = 0x80 + x % 64

-- 0xxxxxxx; 110xxxxx 10xxxxxx; 1110xxxx 10xxxxxx 10xxxxxx; 11110xxx 10xxxxxx 10xxxxxx 10xxxxxx
unfoldable pub encoded : ℕ → List ℕ
encoded c =
    cond (ltb c 0x80) (c ∷ [])
    (cond (ltb c 0x800) ((0xC0 + c / 64) ∷ low c ∷ [])
    (cond (ltb c 0x10000) ((0xE0 + c / 4096) ∷ low (c / 64) ∷ low c ∷ [])
    ((0xF0 + c / 262144) ∷ low (c / 4096) ∷ low (c / 64) ∷ low c ∷ [])))
