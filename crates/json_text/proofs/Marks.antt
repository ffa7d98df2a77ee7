-- Marks of the reader (01 Reading, rows 4 and 5; 02 §9): of each text under a ceiling the one verdict of RFC 7159's grammar, found by computing the machine; and
-- of a string that a caller passes himself. A verdict allows no other answer (`read-determined` in VerdictLaws). Assumes nothing.
use Rattle.json_text.specs.inner.Begun.{begins, begun}
use Rattle.json_text.specs.inner.Machine.{begin, due, ends, expo, from, is_esc, opens, point, step, stops, walk}
use Rattle.json_text.specs.inner.Passing.{passed}
use Rattle.json_text.specs.inner.Tour.{tour}
use Rattle.json_text.specs.Places.{is_ws}
use Rattle.json_text.proofs.VerdictLaws.{verdict}
use Rattle.json_text.specs.Verdict.{Verdict}
use Rattle.octets.specs.Ascii.{ascii}
use Rattle.octets.specs.Class.{among, is_digit}
use mathlib.Core.List.{[], ◌∷◌}
use mathlib.Core.Path.{◌≡◌, refl}
use Rattle.json_text.specs.declared.Fault.TheVariants.{Bad, Deep, Many}
use Rattle.std.specs.Prelude.{Ok, Err, Some, None}

-- a leading zero: `[0]` yes, with two values, `[01]` is 4 at 2 (01 Both sides of the mark)
pub leading_zero : Verdict 2 (ascii "[0]") (Ok 2) × Verdict 2 (ascii "[01]") (Err (Bad 2))
unfolding tour begun begins from walk step is_ws begin opens point expo ends stops
leading_zero = (verdict 2 (ascii "[0]"), verdict 2 (ascii "[01]"))

-- a control byte in a string: 20 hex yes, 1F is 4 at its own place
pub control_byte : Verdict 1 (34 ∷ 0x20 ∷ 34 ∷ []) (Ok 1) × Verdict 1 (34 ∷ 0x1F ∷ 34 ∷ []) (Err (Bad 1))
unfolding tour begun begins from walk step is_ws begin ends stops
control_byte = (verdict 1 (34 ∷ 0x20 ∷ 34 ∷ []), verdict 1 (34 ∷ 0x1F ∷ 34 ∷ []))

-- eight levels yes; the ninth is 5 at its bracket, also where it is one too many; the eighth that is one too many is 11
pub ninth_level : Verdict 8 (ascii "[[[[[[[[]]]]]]]]") (Ok 8) × Verdict 8 (ascii "[[[[[[[[[]]]]]]]]]") (Err (Deep 8)) × Verdict 7 (ascii "[[[[[[[[[]]]]]]]]]") (Err (Many 7))
unfolding tour begun begins from walk step is_ws begin opens ends stops
ninth_level = (verdict 8 (ascii "[[[[[[[[]]]]]]]]"), verdict 8 (ascii "[[[[[[[[[]]]]]]]]]"), verdict 7 (ascii "[[[[[[[[[]]]]]]]]]"))

-- what follows a text is 4 at its own place, and not at the white space before it; a text that stops short is 4 at its length
pub behind-a-text : Verdict 9 (ascii "1 ") (Ok 1) × Verdict 9 (ascii "1 x") (Err (Bad 2)) × Verdict 9 (ascii "[1") (Err (Bad 2))
unfolding tour begun begins from walk step is_ws begin opens point expo ends stops is_digit among
behind-a-text = (verdict 9 (ascii "1 "), verdict 9 (ascii "1 x"), verdict 9 (ascii "[1"))

-- an array, a number, an object, an array and a string are five values, the name is none; the ceiling of five is reached and not passed; one less, and the
-- string is one too many, at its quote
pub five-values : Verdict 5 (ascii "[1,{\"a\":[]},\"x\"]") (Ok 5) × Verdict 4 (ascii "[1,{\"a\":[]},\"x\"]") (Err (Many 12))
unfolding tour begun begins from walk step is_ws begin opens point expo ends stops is_digit among
five-values = (verdict 5 (ascii "[1,{\"a\":[]},\"x\"]"), verdict 4 (ascii "[1,{\"a\":[]},\"x\"]"))

-- a value that turns out to be none is too many where it begins; with room for it, it is 4 where it breaks; a byte that begins no value is 4
pub begun-only : Verdict 1 (ascii "[tx") (Err (Many 1)) × Verdict 2 (ascii "[tx") (Err (Bad 2)) × Verdict 1 (ascii "[x") (Err (Bad 1))
unfolding tour begun begins from walk step is_ws begin opens due ends stops is_digit among
begun-only = (verdict 1 (ascii "[tx"), verdict 2 (ascii "[tx"), verdict 1 (ascii "[x"))

-- a ceiling of 0: the outermost value is too many; a text without any is 4 at its length
pub no_room : Verdict 0 (ascii " 1") (Err (Many 1)) × Verdict 0 (ascii "  ") (Err (Bad 2))
unfolding tour begun begins from walk step is_ws begin ends stops is_digit among
no_room = (verdict 0 (ascii " 1"), verdict 0 (ascii "  "))

-- a string ends behind its quote; where none is closed there is none
pub strings_pass : (passed (ascii "\"a\\\"\",1") 0 ≡ Some 5) × (passed (ascii "\"a\\\"") 0 ≡ None)
unfolding passed from walk step is_ws is_esc begin ends stops
strings_pass = (refl, refl)
