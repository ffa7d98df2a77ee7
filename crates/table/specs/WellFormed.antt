-- Well-formed (01 The table image, second paragraph): one record by itself, then the whole. Cited by the contracts of
-- `src/soundness.rt`, `src/marks.rt` and `src/texts.rt`. Assumes nothing.
use Rattle.std.specs.Prelude.{ℕ, ◌+◌, ◌*◌, eqb, leb, length, get_or, take, drop, Bool, not, ◌&&◌, ◌||◌, List}
use Rattle.octets.specs.Class.{among, all}
use Rattle.octets.specs.Text.{same}
use Rattle.rules.specs.Texts.{call_id_rule, user_rule, fire_rule}
use Rattle.table.specs.Image.{header_size, record_size, most_records, header_of, record_count, record_at}
use Rattle.table.specs.Record.{call_id_at, user_at, caller_fire_at, callee_fire_at, spare_at, spare_size, call_id_room, party_room, room_at, room_text, record_call_id}
use Rattle.table.specs.Record.{record_fields, is_free}
use Rattle.table.specs.Search.{every}
use Rattle.table.specs.declared.numbers.Fields.{Fields}

-- a byte is 00
abbrev pub is_zero : ℕ → Bool
is_zero b = eqb b 0

-- all 00
abbrev pub zeros : List ℕ → Bool
zeros s = all is_zero s

-- a text's length is within its room, and what it leaves of its room is 00: 'unused bytes of all four texts 00'
unfoldable pub padded : ℕ → ℕ → List ℕ → Bool
padded at room r = leb (get_or r at 0) room && zeros (drop (get_or r at 0) (room_at at room r))

-- a text is within its rule and its room
unfoldable pub slot_sound : (List ℕ → Bool) → ℕ → ℕ → List ℕ → Bool
slot_sound rule at room r = padded at room r && rule (room_text at room r)

-- 'texts within their rules': Call-ID, user, caller's and callee's Fire-ID
unfoldable pub texts_sound : List ℕ → Bool
texts_sound r =
    slot_sound call_id_rule call_id_at call_id_room r
    && (slot_sound user_rule user_at party_room r
    && (slot_sound fire_rule caller_fire_at party_room r
    && slot_sound fire_rule callee_fire_at party_room r))

-- 'methods 1–8 (144 is 0 exactly if the callee's highest is 0)'
unfoldable pub callee_sound : ℕ → ℕ → Bool
callee_sound callee method = (eqb callee 0 && eqb method 0) || (not (eqb callee 0) && among 1 8 method)

-- 'state 1–6', 'INVITE number at least 1, caller's highest not below it', the methods, 'byte 114 0 or 1', 'both other times at most
-- the last time'
unfoldable pub fields_sound : Fields → Bool
fields_sound f =
    among 1 6 f.state
    && (leb 1 f.invite
    && (leb f.invite f.caller
    && (among 1 8 f.callermethod
    && (callee_sound f.callee f.calleemethod
    && (leb f.secure 1
    && (leb f.entry f.last
    && leb f.chat f.last))))))

-- '145–151 00'
abbrev pub spare_sound : List ℕ → Bool
spare_sound r = zeros (take spare_size (drop spare_at r))

-- a record in use is well-formed by itself
unfoldable pub used_sound : List ℕ → Bool
used_sound r = fields_sound (record_fields r) && (spare_sound r && texts_sound r)

-- a record is well-formed by itself: free, which is all 00, or in use
unfoldable pub record_sound : List ℕ → Bool
record_sound r = zeros r || used_sound r

-- two records are not two of one call
unfoldable pub apart : List ℕ → List ℕ → Bool
apart r s = is_free r || (is_free s || not (same (record_call_id r) (record_call_id s)))

-- record k is apart from each record before it
unfoldable pub apart_before : List ℕ → ℕ → Bool
apart_before t k = every (λ l. apart (record_at t k) (record_at t l)) k

-- 'Call-IDs distinct': no Call-ID stands in two records that are not free
unfoldable pub distinct : List ℕ → Bool
distinct t = every (apart_before t) (record_count t)

-- 'header and length right': 1 to 255 records behind the header, nothing after, and the header says so
unfoldable pub frame_sound : List ℕ → Bool
frame_sound t =
    eqb (length t) (header_size + record_size * record_count t)
    && (among 1 most_records (record_count t)
    && same (take header_size t) (header_of (record_count t)))

-- each record is well-formed by itself
unfoldable pub records_sound : List ℕ → Bool
records_sound t = every (λ k. record_sound (record_at t k)) (record_count t)

-- a table is well-formed
unfoldable pub well_formed : List ℕ → Bool
well_formed t = frame_sound t && (records_sound t && distinct t)
