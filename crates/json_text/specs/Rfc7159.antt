-- RFC 7159's grammar, sections 2 to 7, rule by rule and under its names: what `Verdict`, the public reader's contract, speaks of.
-- ABNF's own words (RFC 5234) have a capital, the RFC's rules none; but False, True and Zero have one, since the plain words are the
-- library's (a rule's name may be written in either case, RFC 5234 section 2.1). Assumes nothing.
use Rattle.std.specs.Prelude.{List, [], ◌∷◌, ◌++◌, ℕ, zero, suc, ◌≤◌}

-- a rule: which bytes it derives
abbrev pub Rule : Type 1
Rule = List ℕ → Type 0

-- RFC 5234's terminals: %x66.61 is Bytes (0x66 ∷ 0x61 ∷ []), %x5B is Byte 0x5B, %x30-39 is Range 0x30 0x39
pub data Bytes (w : List ℕ) : List ℕ → Type 0 where
  bytes : Bytes w w

abbrev pub Byte : ℕ → Rule
Byte b = Bytes (b ∷ [])

pub data Range (a z : ℕ) : List ℕ → Type 0 where
  range : {b : ℕ} → a ≤ b → b ≤ z → Range a z (b ∷ [])

-- a range with no upper end
pub data AtLeast (a : ℕ) : List ℕ → Type 0 where
  at_least : {b : ℕ} → a ≤ b → AtLeast a (b ∷ [])

infixr 50 ◌⨾◌
infixr 40 ◌or◌
-- RFC 5234, 3.1: concatenation, `A B`
pub data ◌⨾◌ (A B : List ℕ → Type 0) : List ℕ → Type 0 where
  both : {s t : List ℕ} → A s → B t → (A ⨾ B) (s ++ t)

-- 3.2: alternatives, `A / B`
pub data ◌or◌ (A B : List ℕ → Type 0) : List ℕ → Type 0 where
  left : {s : List ℕ} → A s → (A or B) s
  right : {s : List ℕ} → B s → (A or B) s

-- 3.8: an optional part, `[A]`
pub data Opt (A : List ℕ → Type 0) : List ℕ → Type 0 where
  absent : Opt A []
  present : {s : List ℕ} → A s → Opt A s

-- 3.6: any number of them, `*A`
pub data Star (A : List ℕ → Type 0) : List ℕ → Type 0 where
  none : Star A []
  more : {s t : List ℕ} → A s → Star A t → Star A (s ++ t)

-- 3.6: one or more, `1*A`
abbrev pub Plus : Rule → Rule
Plus A = A ⨾ Star A

-- B.1: DIGIT = %x30-39
abbrev pub DIGIT : Rule
DIGIT = Range 0x30 0x39

-- B.1: HEXDIG = DIGIT / "A" / "B" / "C" / "D" / "E" / "F", where a quoted letter stands for both its cases
abbrev pub HEXDIG : Rule
HEXDIG = DIGIT or Range 0x41 0x46 or Range 0x61 0x66

-- Section 2. ws = *( %x20 / %x09 / %x0A / %x0D )
abbrev pub ws : Rule
ws = Star (Byte 0x20 or Byte 0x09 or Byte 0x0A or Byte 0x0D)

-- the six structural characters, each with white space around it
-- begin-array = ws %x5B ws
abbrev pub begin-array : Rule
begin-array = ws ⨾ Byte 0x5B ⨾ ws

-- begin-object = ws %x7B ws
abbrev pub begin-object : Rule
begin-object = ws ⨾ Byte 0x7B ⨾ ws

-- end-array = ws %x5D ws
abbrev pub end-array : Rule
end-array = ws ⨾ Byte 0x5D ⨾ ws

-- end-object = ws %x7D ws
abbrev pub end-object : Rule
end-object = ws ⨾ Byte 0x7D ⨾ ws

-- name-separator = ws %x3A ws
abbrev pub name_separator : Rule
name_separator = ws ⨾ Byte 0x3A ⨾ ws

-- value-separator = ws %x2C ws
abbrev pub value_separator : Rule
value_separator = ws ⨾ Byte 0x2C ⨾ ws

-- Section 3. false = %x66.61.6c.73.65
abbrev pub False : Rule
False = Bytes (0x66 ∷ 0x61 ∷ 0x6C ∷ 0x73 ∷ 0x65 ∷ [])

-- null = %x6e.75.6c.6c
abbrev pub null : Rule
null = Bytes (0x6E ∷ 0x75 ∷ 0x6C ∷ 0x6C ∷ [])

-- true = %x74.72.75.65
abbrev pub True : Rule
True = Bytes (0x74 ∷ 0x72 ∷ 0x75 ∷ 0x65 ∷ [])

-- Section 6. decimal-point = %x2E
abbrev pub decimal_point : Rule
decimal_point = Byte 0x2E

-- digit1-9 = %x31-39
abbrev pub digit1_9 : Rule
digit1_9 = Range 0x31 0x39

-- e = %x65 / %x45
abbrev pub e : Rule
e = Byte 0x65 or Byte 0x45

-- minus = %x2D
abbrev pub minus : Rule
minus = Byte 0x2D

-- plus = %x2B
abbrev pub plus : Rule
plus = Byte 0x2B

-- zero = %x30
abbrev pub Zero : Rule
Zero = Byte 0x30

-- exp = e [ minus / plus ] 1*DIGIT
abbrev pub exp : Rule
exp = e ⨾ Opt (minus or plus) ⨾ Plus DIGIT

-- frac = decimal-point 1*DIGIT
abbrev pub frac : Rule
frac = decimal_point ⨾ Plus DIGIT

-- int = zero / ( digit1-9 *DIGIT )
abbrev pub int : Rule
int = Zero or digit1_9 ⨾ Star DIGIT

-- number = [ minus ] int [ frac ] [ exp ]
abbrev pub number : Rule
number = Opt minus ⨾ int ⨾ Opt frac ⨾ Opt exp

-- Section 7. escape = %x5C
abbrev pub escape : Rule
escape = Byte 0x5C

-- quotation-mark = %x22
abbrev pub quotation_mark : Rule
quotation_mark = Byte 0x22

-- unescaped = %x20-21 / %x23-5B / %x5D-10FFFF: a code point past 7F is two bytes or more, each past 7F; whether they are UTF-8 is
-- another check (01 Reading, row 3), so every byte past 5C may stand here
abbrev pub unescaped : Rule
unescaped = Range 0x20 0x21 or Range 0x23 0x5B or AtLeast 0x5D

-- char = unescaped / escape ( %x22 / %x5C / %x2F / %x62 / %x66 / %x6E / %x72 / %x74 / %x75 4HEXDIG )
abbrev pub char : Rule
char =
    unescaped
    or escape ⨾ (Byte 0x22 or Byte 0x5C or Byte 0x2F or Byte 0x62 or Byte 0x66 or Byte 0x6E or Byte 0x72 or Byte 0x74 or Byte 0x75 ⨾ HEXDIG ⨾ HEXDIG ⨾ HEXDIG ⨾ HEXDIG)

-- string = quotation-mark *char quotation-mark
abbrev pub string : Rule
string = quotation_mark ⨾ Star char ⨾ quotation_mark

-- Section 4, over the rule X for a value. member = string name-separator value
abbrev pub member : Rule → Rule
member X = string ⨾ name_separator ⨾ X

-- object = begin-object [ member *( value-separator member ) ] end-object
abbrev pub object : Rule → Rule
object X = begin-object ⨾ Opt (member X ⨾ Star (value_separator ⨾ member X)) ⨾ end-object

-- Section 5, over X. array = begin-array [ value *( value-separator value ) ] end-array
abbrev pub array : Rule → Rule
array X = begin-array ⨾ Opt (X ⨾ Star (value_separator ⨾ X)) ⨾ end-array

-- Section 3. value = false / null / true / object / array / number / string, with objects and arrays nested at most so deep
abbrev pub value : ℕ → Rule
value zero = False or null or True or number or string
value (suc d) = False or null or True or object (value d) or array (value d) or number or string

-- Section 2. JSON-text = ws value ws, nested at most so deep
abbrev pub JSON-text : ℕ → Rule
JSON-text d = ws ⨾ value d ⨾ ws

-- a text of the RFC, however deep
abbrev pub JSON : Rule
JSON s = (d : ℕ) × JSON-text d s
