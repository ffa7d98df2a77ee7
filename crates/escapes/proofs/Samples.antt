-- Examples of RFC 7159's section 7, computed: a wrong number in a definition fails here. Assumes nothing.
use Prim.Native.Nat.{ℕ}
use Rattle.escapes.specs.Encoding.{encoded}
use Rattle.escapes.specs.Placing.{places_from, place_of}
use Rattle.escapes.specs.Rfc7159.{nibble, quad, unit, short, is_high, is_low, is_surrogate, pair, joined, escape_of, letter_of, took, letters_from, spelt, lone, text, is_broken}
use Rattle.octets.specs.Ascii.{ascii}
use Rattle.octets.specs.Class.{among, is_digit}
use mathlib.Core.Bool.{false, true}
use mathlib.Core.List.{List, [], ◌∷◌}
use mathlib.Core.Path.{◌≡◌, refl}

-- it spells the text; it is broken
abbrev Spells : List ℕ → List ℕ → Type 0
Spells s w = (is_broken s ≡ false) × (text s ≡ w)

abbrev Broken : List ℕ → Type 0
Broken s = is_broken s ≡ true

-- a slash need not be escaped, and may be
pub slash : Spells (ascii "text\\/plain") (ascii "text/plain")
unfolding nibble quad unit short is_high is_low is_surrogate pair joined escape_of letter_of took letters_from spelt lone text is_broken encoded among is_digit
slash = (refl, refl)

-- a letter by its number
pub bye : Spells (ascii "\\u0042YE") (ascii "BYE")
unfolding nibble quad unit short is_high is_low is_surrogate pair joined escape_of letter_of took letters_from spelt lone text is_broken encoded among is_digit
bye = (refl, refl)

-- the eight short escapes
pub shorts : Spells (ascii "\\\"\\\\\\/\\b\\f\\n\\r\\t") (0x22 ∷ 0x5C ∷ 0x2F ∷ 0x08 ∷ 0x0C ∷ 0x0A ∷ 0x0D ∷ 0x09 ∷ [])
unfolding nibble quad unit short is_high is_low is_surrogate pair joined escape_of letter_of took letters_from spelt lone text is_broken encoded among is_digit
shorts = (refl, refl)

-- hex digits of either case: U+30AB
pub kana : Spells (ascii "\\u30AB\\u30ab") (0xE3 ∷ 0x82 ∷ 0xAB ∷ 0xE3 ∷ 0x82 ∷ 0xAB ∷ [])
unfolding nibble quad unit short is_high is_low is_surrogate pair joined escape_of letter_of took letters_from spelt lone text is_broken encoded among is_digit
kana = (refl, refl)

-- the RFC's own pair: the G clef, U+1D11E
pub clef : Spells (ascii "\\uD834\\uDD1E") (0xF0 ∷ 0x9D ∷ 0x84 ∷ 0x9E ∷ [])
unfolding nibble quad unit short is_high is_low is_surrogate pair joined escape_of letter_of took letters_from spelt lone text is_broken encoded among is_digit
clef = (refl, refl)

-- a high half alone, a low half alone, the halves the wrong way round, a high half before another escape and before a pair
pub halves :
    Broken (ascii "\\uD834x")
    × Broken (ascii "x\\uDD1E")
    × Broken (ascii "\\uDD1E\\uD834")
    × Broken (ascii "\\uD834\\n")
    × Broken (ascii "\\uD834\\uD834\\uDD1E")
unfolding nibble quad unit short is_high is_low is_surrogate pair joined escape_of letter_of took letters_from spelt lone text is_broken encoded among is_digit
halves = (refl, refl, refl, refl, refl)

-- an escaped backslash begins no escape; and a backslash that begins none stands for itself
pub backslashes : Spells (ascii "\\\\u0041") (ascii "\\u0041") × Spells (ascii "\\x\\u004") (ascii "\\x\\u004") × Spells (ascii "x\\") (ascii "x\\")
unfolding nibble quad unit short is_high is_low is_surrogate pair joined escape_of letter_of took letters_from spelt lone text is_broken encoded among is_digit
backslashes = ((refl, refl), (refl, refl), (refl, refl))

-- Where the octets stand.

abbrev Placed : List ℕ → List ℕ → Type 0
Placed s ps = places_from 0 0 s ≡ ps

-- an escape of one octet, and one of three; a character of two bytes, each at its own place; a pair; a lone half
pub places :
    Placed (ascii "a\\nb\\u30abc") (0 ∷ 1 ∷ 3 ∷ 4 ∷ 4 ∷ 4 ∷ 10 ∷ [])
    × Placed (0x61 ∷ 0xC3 ∷ 0xA9 ∷ 0x62 ∷ []) (0 ∷ 1 ∷ 2 ∷ 3 ∷ [])
    × Placed (ascii "a\\uD834\\uDD1Eb") (0 ∷ 1 ∷ 1 ∷ 1 ∷ 1 ∷ 13 ∷ [])
    × Placed (ascii "a\\uD834b") (0 ∷ 1 ∷ 1 ∷ 1 ∷ 7 ∷ [])
unfolding nibble quad unit short is_high is_low is_surrogate pair joined escape_of letter_of took places_from encoded among is_digit
places = (refl, refl, refl, refl)

-- an octet's, and the end of a text that stops short
pub place : (place_of (ascii "1 \\u0041YE") 2 ≡ 2) × (place_of (ascii "1 \\u0041YE") 3 ≡ 8) × (place_of (ascii "1 \\u0041") 3 ≡ 8)
unfolding nibble quad unit short is_high is_low is_surrogate pair joined escape_of letter_of took places_from place_of encoded among is_digit
place = (refl, refl, refl)
