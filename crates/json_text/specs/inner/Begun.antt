-- Where the machine begins values: a fold beside `walk`. Inner: by `complete-places` in proofs/Complete.antt they are the grammar's own `places`.
-- Assumes nothing.
use Rattle.std.specs.Prelude.{Bool, true, false, not, ◌&&◌, List, [], ◌∷◌, ◌++◌, ℕ, ◌+◌, drop, eqb}
use Rattle.json_text.specs.inner.Machine.{Stack, Mode, value, first, name, name₁, colon, after, str, esc, hex, word, minus, nought, int, dot, frac, exp, sign, power}
use Rattle.json_text.specs.inner.Machine.{Next, live, dead, deep, done, step}
use Rattle.json_text.specs.Places.{is_ws}

-- whether byte b, if the machine takes it, is the first of a value
abbrev pub begins_value : Mode → ℕ → Bool
begins_value value b = not (is_ws b)
begins_value first b = not (is_ws b) && not (eqb b 93)
begins_value name b = false
begins_value name₁ b = false
begins_value colon b = false
begins_value after b = false
begins_value (str w) b = false
begins_value (esc w) b = false
begins_value (hex w n) b = false
begins_value (word x xs) b = false
begins_value minus b = false
begins_value nought b = false
begins_value int b = false
begins_value dot b = false
begins_value frac b = false
begins_value exp b = false
begins_value sign b = false
begins_value power b = false

abbrev pub only : Bool → ℕ → List ℕ
only true i = i ∷ []
only false i = []

-- byte i does n, and f has the places behind it: a byte that is refused, or opens a level too many, begins nothing
abbrev pub begins_at : Bool → Next → (Mode → Stack → ℕ → List ℕ) → ℕ → List ℕ
begins_at t (live m k) f i = only t i ++ f m k (i + 1)
begins_at t dead f i = []
begins_at t deep f i = []
begins_at t done f i = []

-- the places where values begin, in bytes of which the first is byte i of the text
unfoldable pub begins : List ℕ → Mode → Stack → ℕ → List ℕ
begins [] m k i = []
begins (b ∷ bs) m k i = begins_at (begins_value m b) (step m k b) (begins bs) i

-- from byte i of s on
unfoldable pub begun : List ℕ → ℕ → Mode → Stack → List ℕ
begun s i m k = begins (drop i s) m k i
