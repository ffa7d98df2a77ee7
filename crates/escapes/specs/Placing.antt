-- Where in a string's spelling each octet of its text stands (02 §12): at the first byte of its letter, which of an escape is the backslash, and of a pair of
-- escapes the first one's. Assumes nothing.
use Rattle.std.specs.Prelude.{ℕ, zero, suc, ◌+◌, ◌-◌, length, get_or, replicate, List, [], ◌∷◌, ◌++◌}
use Rattle.escapes.specs.Rfc7159.{letter_of, octets_of, took}

-- the place of each octet's letter, behind k bytes that belong to a letter already met, the next byte standing at `at`
unfoldable pub places_from : ℕ → ℕ → List ℕ → List ℕ
places_from k at [] = []
places_from (suc k) at (b ∷ s) = places_from k (at + 1) s
places_from zero at (b ∷ s) = replicate (length (octets_of (letter_of (b ∷ s)))) at ++ places_from (took (b ∷ s) - 1) (at + 1) s

-- the place of octet k, the first being 0; behind all the bytes where the text has no such octet
unfoldable pub place_of : List ℕ → ℕ → ℕ
place_of s k = get_or (places_from 0 0 s) k (length s)
