-- How bytes are shown, what is answered to anything else, and what it is to write an answer. Cited by the contracts of whatever writes
-- one. Assumes nothing.
use Rattle.std.specs.Prelude.{cond, ℕ, eqb, length, List, ◌≡◌}
use Rattle.hex_text.specs.Digits.{encoded}
use Rattle.octets.specs.Ascii.{ascii}
use Rattle.octets.specs.Splice.{written}

-- bytes in lower-case hex; `-` where there are none
unfoldable pub hexed : List ℕ → List ℕ
hexed s = cond (eqb (length s) 0) (ascii "-") (encoded s)

-- the line that answers anything else
abbrev pub unknown : List ℕ
unknown = ascii "?\n"

-- a text is written at the front of o, and its length answered
abbrev pub Puts : List ℕ → List ℕ → ℕ → List ℕ → Type 0
Puts o text r o' = (r ≡ length text) × (o' ≡ written o text)
