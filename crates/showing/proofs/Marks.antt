-- Words and rooms as the probe shows them, computed by the definitions. Assumes nothing.
use Rattle.std.proofs.Common.{None, Some}
use Rattle.hex_text.specs.Digits.{digit_of, encoded}
use Rattle.octets.specs.Ascii.{ascii}
use Rattle.octets.specs.Class.{all, among, is_digit}
use Rattle.octets.specs.Decimal.{shown, shown_in, tens}
use Rattle.octets.specs.Splice.{written}
use Rattle.showing.specs.Shown.{hexed}
use Rattle.showing.specs.Words.{numeral}
use Rattle.showing.specs.Writers.{filled, head_of, wrote_line, wrote_text}
use Rattle.writing.specs.Outcome.{fitted, put, refuse, write}
use Rattle.writing.specs.declared.answers.Refusal.TheVariants.{Kind}
use mathlib.Core.List.{[]}
use mathlib.Core.Path.{◌≡◌, refl}

-- a number has leading zeros as many as there are, and is below 2^64
pub numbers :
    (numeral (ascii "000000000000000000007") ≡ Some 7)
    × (numeral (ascii "018446744073709551615") ≡ Some 18446744073709551615)
    × (numeral (ascii "18446744073709551616") ≡ None)
    × (numeral [] ≡ None)
unfolding numeral all is_digit among tens
numbers = (refl, refl, refl, refl)

-- the whole room is shown, of which each byte was 5a: with two bytes written, and after a refusal
pub rooms : (wrote_line 4 (write (ascii "ab")) ≡ ascii "ok 2 61625a5a\n") × (wrote_line 3 (refuse Kind) ≡ ascii "no 30 5a5a5a\n")
unfolding wrote_line wrote_text head_of filled hexed encoded digit_of shown shown_in fitted put written
rooms = (refl, refl)
