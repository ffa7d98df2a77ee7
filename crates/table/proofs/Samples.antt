-- Images as document 01 draws them (01 The table image), computed by the definitions: where each number and text of a record stands, and tables that
-- are well-formed beside ones that are not, by one byte. Assumes nothing.
use Prim.Native.Nat.{ℕ, zero, suc, ◌+◌}
use Rattle.octets.specs.Ascii.{ascii}
use Rattle.octets.specs.Class.{all, among, is_alnum, is_digit, is_letter, is_lower, is_upper}
use Rattle.octets.specs.Number.{bytes_of, onto}
use Rattle.octets.specs.Text.{same}
use Rattle.rules.specs.Classes.{holds}
use Rattle.rules.specs.Pieces.{piece_end, has_piece, reads, run_length, within}
use Rattle.rules.specs.Texts.{call_id_rule, fire_rule, user_rule}
use Rattle.table.specs.Blank.{blank_fits}
use Rattle.table.specs.Image.{free_record, header_of}
use Rattle.table.specs.Record.{record_call_id, record_callee_fire, record_caller_fire, counts_of, record_fields, new_record, record_of, slot_of, room_text, times_of, record_user}
use Rattle.table.specs.Search.{every}
use Rattle.table.specs.WellFormed.{apart, apart_before, callee_sound, distinct, fields_sound, frame_sound, padded, record_sound, records_sound, slot_sound}
use Rattle.table.specs.WellFormed.{texts_sound, used_sound, well_formed}
use lib.ListN.{set}
use mathlib.Core.Bool.{false, true}
use mathlib.Core.List.{List, [], ◌∷◌, ◌++◌}
use mathlib.Core.Path.{◌≡◌, refl}

-- n bytes from k on, each of them its own place
abbrev places_from : ℕ → ℕ → List ℕ
places_from k zero = []
places_from k (suc n) = k ∷ places_from (k + 1) n

-- a record of which each byte is its own place
abbrev ruler : List ℕ
ruler = places_from 0 160

-- 0 state; 114 Secure-Call; 115 method; 116–119 INVITE; 120–123, 124–127 highest; 128–135 last time; 136–143 entered; 144 method; 152–159 chat
pub numbers-stand :
    record_fields ruler
    ≡ record {
      state = 0;
      secure = 114;
      invite = 0x74757677;
      caller = 0x78797A7B;
      callermethod = 115;
      callee = 0x7C7D7E7F;
      calleemethod = 144;
      last = 0x8081828384858687;
      entry = 0x88898A8B8C8D8E8F;
      chat = 0x98999A9B9C9D9E9F;
    }
unfolding record_fields onto
numbers-stand = refl

-- 1 Call-ID length, 2–65 Call-ID; 66, 82, 98 lengths, then 15 bytes each
pub texts-stand :
    (record_call_id (set ruler 1 64) ≡ places_from 2 64)
    × (record_user ruler ≡ places_from 67 15)
    × (record_caller_fire ruler ≡ places_from 83 15)
    × (record_callee_fire ruler ≡ places_from 99 15)
unfolding room_text
texts-stand = (refl, refl, refl, refl)

-- a record of this Call-ID
abbrev record_named : List ℕ → List ℕ
record_named id =
    new_record id (ascii "u1") (ascii "nishi") (ascii "kita")
    (record { state = 1; secure = 0; invite = 7; caller = 7; callermethod = 1; callee = 0; calleemethod = 0; last = 9; entry = 9; chat = 9 })

-- a table of two records
abbrev table_of : List ℕ → List ℕ → List ℕ
table_of a b = header_of 2 ++ (a ++ b)

pub well-formed :
    -- Call-IDs distinct
    (well_formed (table_of (record_named (ascii "A1")) (record_named (ascii "A2"))) ≡ true)
    × (well_formed (table_of (record_named (ascii "A1")) (record_named (ascii "A1"))) ≡ false)
    -- unused bytes of a text 00: the first behind the Call-ID, and the last of its room
    × (well_formed (table_of (record_named (ascii "A1")) free_record) ≡ true)
    × (well_formed (table_of (set (record_named (ascii "A1")) 4 1) free_record) ≡ false)
    × (well_formed (table_of (set (record_named (ascii "A1")) 65 1) free_record) ≡ false)
    -- a free record is all 00
    × (well_formed (table_of (record_named (ascii "A1")) (set free_record 159 1)) ≡ false)
unfolding well_formed frame_sound header_of bytes_of same records_sound every record_sound used_sound fields_sound callee_sound record_fields onto texts_sound slot_sound padded
    room_text
    call_id_rule user_rule fire_rule reads has_piece piece_end within run_length holds among all is_alnum is_digit is_letter is_lower is_upper distinct apart_before apart
    new_record record_of
    slot_of
    counts_of times_of
well-formed = (refl, refl, refl, refl, refl, refl)

-- a blank table: record count 1–255, and the length right
pub blank-fits :
    (blank_fits 0 16 ≡ false)
    × (blank_fits 1 176 ≡ true)
    × (blank_fits 1 177 ≡ false)
    × (blank_fits 255 40816 ≡ true)
    × (blank_fits 256 40976 ≡ false)
unfolding blank_fits among
blank-fits = (refl, refl, refl, refl, refl)
