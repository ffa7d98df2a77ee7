-- The definitions on both sides of their bounds, and on small texts, computed: a wrong number in one of them fails here. Assumes nothing.
use Rattle.octets.specs.Ascii.{ascii}
use Rattle.octets.specs.Class.{all, among, digits_rule, is_digit, is_lower, is_upper}
use Rattle.octets.specs.Number.{bytes_of, big_endian, onto}
use Rattle.octets.specs.Text.{same}
use mathlib.Core.Bool.{false, true}
use mathlib.Core.List.{[], ◌∷◌}
use mathlib.Core.Path.{◌≡◌, refl}

-- `0` to `9`, and neither byte beside them
pub digits : (is_digit 47 ≡ false) × (is_digit 48 ≡ true) × (is_digit 57 ≡ true) × (is_digit 58 ≡ false)
unfolding is_digit among
digits = (refl, refl, refl, refl)

-- two to three digits, and neither one nor four, nor a letter among them
pub digit_texts :
    (digits_rule 2 3 (ascii "1") ≡ false)
    × (digits_rule 2 3 (ascii "12") ≡ true)
    × (digits_rule 2 3 (ascii "123") ≡ true)
    × (digits_rule 2 3 (ascii "1234") ≡ false)
    × (digits_rule 2 3 (ascii "12a") ≡ false)
unfolding digits_rule all is_digit among
digit_texts = (refl, refl, refl, refl, refl)

-- `a` to `z`
pub small : (is_lower 96 ≡ false) × (is_lower 97 ≡ true) × (is_lower 122 ≡ true) × (is_lower 123 ≡ false)
unfolding is_lower among
small = (refl, refl, refl, refl)

-- `A` to `Z`
pub capital : (is_upper 64 ≡ false) × (is_upper 65 ≡ true) × (is_upper 90 ≡ true) × (is_upper 91 ≡ false)
unfolding is_upper among
capital = (refl, refl, refl, refl)

-- `ab` is `ab`; neither `ac` of the same length nor `a` nor `abc` is
pub texts :
    (same (ascii "ab") (ascii "ab") ≡ true)
    × (same (ascii "ab") (ascii "ac") ≡ false)
    × (same (ascii "ab") (ascii "a") ≡ false)
    × (same (ascii "ab") (ascii "abc") ≡ false)
unfolding same
texts = (refl, refl, refl, refl)

-- big-endian (01 The table image): 01 02 is 258, and 258 in four bytes is 00 00 01 02
pub numbers : (big_endian (1 ∷ 2 ∷ []) ≡ 258) × (bytes_of 4 258 ≡ 0 ∷ 0 ∷ 1 ∷ 2 ∷ [])
unfolding onto bytes_of
numbers = (refl, refl)
