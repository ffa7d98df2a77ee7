-- What `blank`, `table` and `dump` show, and the table that is held after them. Cited by the contracts of `src/tables.rt`.
-- Assumes nothing.
use Rattle.std.specs.Prelude.{ℕ, Bool, true, false, cond, List, ◌++◌, None, Option, Some}
use Rattle.lines.specs.Log.{Effect}
use Rattle.octets.specs.Ascii.{ascii}
use Rattle.probe.specs.Effect.{shows}
use Rattle.showing.specs.Shown.{hexed, unknown}
use Rattle.showing.specs.Words.{hex_bytes, first_word, has_space, is_hex_to, number_to, rest}
use Rattle.table.specs.Blank.{blank_fits, blank_of}
use Rattle.table.specs.WellFormed.{well_formed}

-- `ok`, or `no 1`
abbrev pub verdict_text : Bool → List ℕ
verdict_text good = cond good (ascii "ok\n") (ascii "no 1\n")

-- `dump`: the held table
unfoldable pub dump_text : List ℕ → List ℕ
dump_text t = hexed t ++ ascii "\n"

-- a blank table of so many records and bytes is held, if the length is right for the count
unfoldable pub blank_made : List ℕ → ℕ → ℕ → Effect (List ℕ)
blank_made t count len = cond (blank_fits count len) (shows (blank_of count) (verdict_text true)) (shows t (verdict_text false))

-- by its two numbers, if there are both
abbrev pub blank_by : List ℕ → Option ℕ → Option ℕ → Effect (List ℕ)
blank_by t (Some count) (Some len) = blank_made t count len
blank_by t (Some count) None = shows t unknown
blank_by t None len = shows t unknown

-- `blank COUNT LENGTH`; a COUNT over 65,535 and a LENGTH over 65,536 are answered `?`
unfoldable pub blank_done : List ℕ → List ℕ → Effect (List ℕ)
blank_done t words = cond (has_space words) (blank_by t (number_to 65535 (first_word words)) (number_to 65536 (rest words))) (shows t unknown)

-- a word stands for a table's image, of at most 65,536 bytes
abbrev pub is_image : List ℕ → Bool
is_image w = is_hex_to 131072 w

-- `table HEX`: the image is held as it is
unfoldable pub table_done : List ℕ → List ℕ → Effect (List ℕ)
table_done t w = cond (is_image w) (shows (hex_bytes w) (verdict_text (well_formed (hex_bytes w)))) (shows t unknown)
