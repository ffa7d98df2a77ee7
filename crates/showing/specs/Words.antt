-- The words of a line: parted by one space, numbers in decimal, bytes in lower-case hex. Cited by the contracts of `src/words.rt`
-- and by what the commands are said to show. Assumes nothing.
use Rattle.std.specs.Prelude.{ℕ, ◌+◌, leb, ltb, length, take, drop, Bool, ◌&&◌, ◌||◌, cond, List, [], None, Option, Some}
use Rattle.hex_text.specs.Digits.{decoded, is_hex}
use Rattle.octets.specs.Ascii.{ascii}
use Rattle.octets.specs.Class.{all, is_digit}
use Rattle.octets.specs.Decimal.{decimal_of}
use Rattle.octets.specs.Text.{before, same}

-- whether a space stands in s
abbrev pub has_space : List ℕ → Bool
has_space s = ltb (before 32 s) (length s)

-- what stands before the first space
abbrev pub first_word : List ℕ → List ℕ
first_word s = take (before 32 s) s

-- what stands behind it
abbrev pub rest : List ℕ → List ℕ
rest s = drop (before 32 s + 1) s

-- the number that a word is: digits, at least one, with as many leading zeros as there are, below 2^64
unfoldable pub numeral : List ℕ → Option ℕ
numeral w = cond (leb 1 (length w) && (all is_digit w && ltb (decimal_of w) 18446744073709551616)) (Some (decimal_of w)) None

-- a number up to a limit; any other is none
abbrev pub value_to : ℕ → Option ℕ → Option ℕ
value_to most (Some n) = cond (leb n most) (Some n) None
value_to most None = None

-- the number that a word is, up to a limit
abbrev pub number_to : ℕ → List ℕ → Option ℕ
number_to most w = value_to most (numeral w)

-- `-`, which stands for no bytes
abbrev pub is_none : List ℕ → Bool
is_none w = same w (ascii "-")

-- a word stands for bytes: for none, or in hex of at most so many digits
unfoldable pub is_hex_to : ℕ → List ℕ → Bool
is_hex_to most w = is_none w || (leb 1 (length w) && (leb (length w) most && is_hex w))

-- a word stands for at most 40,000 bytes
abbrev pub is_bytes : List ℕ → Bool
is_bytes w = is_hex_to 80000 w

-- the bytes that it stands for
unfoldable pub hex_bytes : List ℕ → List ℕ
hex_bytes w = cond (is_none w) [] (decoded w)
