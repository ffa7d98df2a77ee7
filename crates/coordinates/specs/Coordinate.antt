-- A coordinate (02 §4): a JSON number without exponent, of at most six written decimals and within so many degrees, in whole millionths of a degree.
-- It is read from the number's own bytes: a minus or none, one to three digits, and then nothing, or a point and one to six digits. JSON lets no
-- number begin with a zero before another digit, so one with four digits or more before its point lies beyond 90 and 180.
-- What the contracts of `src/lib.rt` cite. Assumes nothing.
use Prim.Native.Char.{code}
use Rattle.std.specs.Prelude.{ℕ, ◌+◌, ◌-◌, ◌*◌, ℤ, pos, neg_ℤ, Bool, ◌&&◌, ◌||◌, cond, List, ◌++◌, eqb, leb, length, get_or, take, drop, replicate, Option, Some, None}
use Rattle.octets.specs.Class.{digits_rule}
use Rattle.octets.specs.Decimal.{decimal_of}
use Rattle.octets.specs.Text.{before}

-- whether a number has a minus
unfoldable pub has_minus : List ℕ → Bool
has_minus v = eqb (get_or v 0 0) (code "-")

-- the number without it
unfoldable pub unsigned : List ℕ → List ℕ
unsigned v = cond (has_minus v) (drop 1 v) v

-- what stands before the point; all, where there is none
unfoldable pub whole : List ℕ → List ℕ
whole b = take (before (code ".") b) b

-- what stands behind it; nothing, where there is none
unfoldable pub decimals : List ℕ → List ℕ
decimals b = drop (before (code ".") b + 1) b

-- one to three digits, and then nothing, or a point and one to six digits
unfoldable pub is_spelled : List ℕ → Bool
is_spelled b = digits_rule 1 3 (whole b) && (eqb (before (code ".") b) (length b) || digits_rule 1 6 (decimals b))

-- decimals, and zeros behind them to six
unfoldable pub to_six : List ℕ → List ℕ
to_six f = f ++ replicate (6 - length f) (code "0")

-- the whole millionths: the digits before the point and six decimals, one after the other, as one decimal number
unfoldable pub millionths_of : List ℕ → ℕ
millionths_of b = decimal_of (whole b ++ to_six (decimals b))

-- m, below zero where there is a minus; minus zero is zero
abbrev pub signed : Bool → ℕ → ℤ
signed minus m = cond minus (neg_ℤ (pos m)) (pos m)

-- the coordinate that a number is, if it is spelled as one and lies within so many degrees
unfoldable pub coordinate_of : ℕ → List ℕ → Option ℤ
coordinate_of degrees v =
    cond (is_spelled (unsigned v) && leb (millionths_of (unsigned v)) (degrees * 1000000))
    (Some (signed (has_minus v) (millionths_of (unsigned v)))) None
