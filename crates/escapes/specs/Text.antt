-- What the functions of this crate answer about a text, and what they leave in a lent buffer. Assumes nothing.
use Prim.Native.Char.{code}
use Rattle.std.specs.Prelude.{ℕ, eqb, length, take, Bool, false, not, ◌||◌, List, [], ◌∷◌}
use Rattle.escapes.specs.Rfc7159.{is_broken, text}
use Rattle.escapes.specs.declared.measuring.Measured.{Measured}
use Rattle.octets.specs.Class.{all}
use Rattle.octets.specs.Splice.{written}
use Rattle.rules.specs.Texts.{no_break, points}

-- whether a backslash is among the bytes
unfoldable pub escaped : List ℕ → Bool
escaped [] = false
escaped (b ∷ s) = eqb b (code "\\") || escaped s

-- a buffer with a text over its front, as far as it has room
unfoldable pub over : List ℕ → List ℕ → List ℕ
over o w = written o (take (length o) w)

-- a text's measure: its bytes, its code points, whether it is broken, whether a line break is in it
unfoldable pub measure_of : List ℕ → Measured
measure_of s =
    record { length = length (text s); points = points (text s); broken = is_broken s; breaks = not (all no_break (text s)) }
