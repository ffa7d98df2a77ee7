-- The table image as a whole (01 The table image): a header, then records of one size. Cited by the contracts of
-- `src/` but those of `texts.rt`. Assumes nothing.
use Rattle.std.specs.Prelude.{ℕ, ◌+◌, ◌-◌, ◌*◌, ◌/◌, length, take, drop, replicate, List, [], ◌∷◌, ◌++◌}
use Rattle.octets.specs.Ascii.{ascii}
use Rattle.octets.specs.Number.{bytes_of}
use Rattle.octets.specs.Splice.{splice}

-- the header is 16 bytes
abbrev pub header_size : ℕ
header_size = 16

-- a record is 160 bytes
abbrev pub record_size : ℕ
record_size = 160

-- a table has 1 to 255 records
abbrev pub most_records : ℕ
most_records = 255

-- the version of this image
abbrev pub version : ℕ
version = 1

-- the header of a table of so many records: `NCT`, 00, the version and the count of 16 bits each, eight 00
unfoldable pub header_of : ℕ → List ℕ
header_of count = (ascii "NCT" ++ (0 ∷ [])) ++ (bytes_of 2 version ++ (bytes_of 2 count ++ replicate 8 0))

-- where record k starts
abbrev pub base : ℕ → ℕ
base k = header_size + record_size * k

-- how many whole records stand behind the header
abbrev pub record_count : List ℕ → ℕ
record_count t = (length t - header_size) / record_size

-- record k
abbrev pub record_at : List ℕ → ℕ → List ℕ
record_at t k = take record_size (drop (base k) t)

-- the table with x for record k, and every other byte as it was
abbrev pub with_record : List ℕ → ℕ → List ℕ → List ℕ
with_record t k x = splice t (base k) x

-- a free record is all 00
abbrev pub free_record : List ℕ
free_record = replicate record_size 0
