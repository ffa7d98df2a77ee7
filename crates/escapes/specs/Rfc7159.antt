-- RFC 7159, section 7: what the bytes between the quotes of a string spell (02 §2). On any bytes: a byte stands for itself, so a character of
-- several bytes does; an escape spells a character's number, or half of one. A backslash that begins no escape, which no JSON string has,
-- stands for itself. Assumes nothing.
use Prim.Native.Char.{code as char}
use Rattle.std.specs.Prelude.{ℕ, zero, suc, ◌+◌, ◌-◌, ◌*◌, eqb, ltb, drop, get_or, Bool, false, not, ◌&&◌, ◌||◌, cond, List, [], ◌∷◌, ◌++◌}
use Rattle.escapes.specs.Encoding.{encoded}
use Rattle.escapes.specs.declared.reading.Escape.{Escape}
use Rattle.octets.specs.Class.{among, is_digit}
use Rattle.octets.specs.Text.{same}

-- where no code unit stands: one more than the largest
abbrev pub none : ℕ
none = 0x10000

-- what the byte behind a backslash spells: quote, backslash, slash, backspace, form feed, line feed, carriage return, tab; or none
unfoldable pub short : ℕ → ℕ
short b =
    cond (eqb b (char "\"")) 0x22
    (cond (eqb b (char "\\")) 0x5C
    (cond (eqb b (char "/")) 0x2F
    (cond (eqb b (char "b")) 0x08
    (cond (eqb b (char "f")) 0x0C
    (cond (eqb b (char "n")) 0x0A
    (cond (eqb b (char "r")) 0x0D
    (cond (eqb b (char "t")) 0x09 none)))))))

-- the value of a hex digit, of either case; 16 for any other byte
unfoldable pub nibble : ℕ → ℕ
nibble b =
    cond (is_digit b) (b - char "0")
    (cond (among (char "A") (char "F") b) (b - char "A" + 10)
    (cond (among (char "a") (char "f") b) (b - char "a" + 10) 16))

-- four hex digits as a number, or none
unfoldable pub quad : ℕ → ℕ → ℕ → ℕ → ℕ
quad a b c d = cond (ltb a 16 && (ltb b 16 && (ltb c 16 && ltb d 16))) (a * 4096 + b * 256 + c * 16 + d) none

-- the code unit that \uXXXX at the front spells, or none
unfoldable pub unit : List ℕ → ℕ
unit s =
    cond (eqb (get_or s 0 0) (char "\\") && eqb (get_or s 1 0) (char "u"))
    (quad (nibble (get_or s 2 0)) (nibble (get_or s 3 0)) (nibble (get_or s 4 0)) (nibble (get_or s 5 0)))
    none

-- the halves of a UTF-16 surrogate pair, the first and the second, and either
unfoldable pub is_high : ℕ → Bool
is_high u = among 0xD800 0xDBFF u

unfoldable pub is_low : ℕ → Bool
is_low u = among 0xDC00 0xDFFF u

unfoldable pub is_surrogate : ℕ → Bool
is_surrogate u = among 0xD800 0xDFFF u

-- the number of a pair
unfoldable pub pair : ℕ → ℕ → ℕ
pair u v = 0x10000 + (u - 0xD800) * 1024 + (v - 0xDC00)

-- a number, and how many bytes spell it
abbrev pub esc : ℕ → ℕ → Escape
esc c n = record { code = c; took = n }

-- the unit u of a \uXXXX, with the unit v of what follows it: a pair is one number
unfoldable pub joined : ℕ → ℕ → Escape
joined u v = cond (is_high u && is_low v) (esc (pair u v) 12) (esc u 6)

-- the escape at the front of bytes that begin with a backslash
unfoldable pub escape_of : List ℕ → Escape
escape_of s =
    cond (ltb (short (get_or s 1 0)) none) (esc (short (get_or s 1 0)) 2)
    (cond (ltb (unit s) none) (joined (unit s) (unit (drop 6 s)))
    (esc (char "\\") 1))

-- a letter: a byte that stands for itself, or the number that an escape spells, which is a character's or a lone surrogate
pub data Letter : Type 0 where
  own : ℕ → Letter
  code : ℕ → Letter

-- the letter at the front, and how many bytes spell it
unfoldable pub letter_of : List ℕ → Letter
letter_of s = cond (eqb (get_or s 0 0) (char "\\")) (code (escape_of s).code) (own (get_or s 0 0))

unfoldable pub took : List ℕ → ℕ
took s = cond (eqb (get_or s 0 0) (char "\\")) (escape_of s).took 1

-- the letters, behind k bytes that belong to a letter already met
unfoldable pub letters_from : ℕ → List ℕ → List Letter
letters_from k [] = []
letters_from (suc k) (b ∷ s) = letters_from k s
letters_from zero (b ∷ s) = letter_of (b ∷ s) ∷ letters_from (took (b ∷ s) - 1) s

abbrev pub letters : List ℕ → List Letter
letters s = letters_from 0 s

-- a letter's octets, and whether it is a lone surrogate
abbrev pub octets_of : Letter → List ℕ
octets_of (own b) = b ∷ []
octets_of (code c) = encoded c

abbrev pub is_lone : Letter → Bool
is_lone (own b) = false
is_lone (code c) = is_surrogate c

-- of letters, all the octets, and whether one is lone
unfoldable pub spelt : List Letter → List ℕ
spelt [] = []
spelt (l ∷ ls) = octets_of l ++ spelt ls

unfoldable pub lone : List Letter → Bool
lone [] = false
lone (l ∷ ls) = is_lone l || lone ls

-- the text that the bytes s between the quotes spell: UTF-8 where they are and it is not broken (`text-good` in proofs/Utf8Laws.antt)
unfoldable pub text : List ℕ → List ℕ
text s = spelt (letters s)

-- it is broken: a lone surrogate is in it, which no UTF-8 spells
unfoldable pub is_broken : List ℕ → Bool
is_broken s = lone (letters s)

-- the string's text is w
unfoldable pub spells : List ℕ → List ℕ → Bool
spells s w = not (is_broken s) && same (text s) w
