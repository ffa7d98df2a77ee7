-- One record (01 The table image, first paragraph): where its fields stand, and how it is put together. Cited by the contracts of
-- `src/numbers.rt`, `src/texts.rt`, `src/records.rt`, `src/searching.rt`, `src/marks.rt` and `src/soundness.rt`; `src/layout.rt` has its places.
-- Assumes nothing.
use Rattle.std.specs.Prelude.{ℕ, ◌+◌, ◌-◌, eqb, length, get_or, take, drop, replicate, Bool, not, ◌&&◌, List, [], ◌∷◌, ◌++◌}
use Rattle.octets.specs.Number.{bytes_of, big_endian}
use Rattle.octets.specs.Text.{same}
use Rattle.table.specs.declared.numbers.Fields.{Fields}

-- where the state stands
abbrev pub state_at : ℕ
state_at = 0

-- where the Call-ID's length stands, with the Call-ID behind it
abbrev pub call_id_at : ℕ
call_id_at = 1

-- where the user's length stands, with the user behind it
abbrev pub user_at : ℕ
user_at = 66

-- where the length of the caller's Fire-ID stands
abbrev pub caller_fire_at : ℕ
caller_fire_at = 82

-- where the length of the callee's Fire-ID stands
abbrev pub callee_fire_at : ℕ
callee_fire_at = 98

-- where Secure-Call stands
abbrev pub secure_at : ℕ
secure_at = 114

-- where the method of the caller's highest number stands
abbrev pub caller_method_at : ℕ
caller_method_at = 115

-- where the INVITE number stands, of four bytes
abbrev pub invite_at : ℕ
invite_at = 116

-- where the caller's highest number stands, of four bytes
abbrev pub caller_at : ℕ
caller_at = 120

-- where the callee's highest number stands, of four bytes; 0: none
abbrev pub callee_at : ℕ
callee_at = 124

-- where the last time stands, of eight bytes
abbrev pub last_at : ℕ
last_at = 128

-- where the time that the state was entered stands, of eight bytes
abbrev pub entry_at : ℕ
entry_at = 136

-- where the method of the callee's highest number stands
abbrev pub callee_method_at : ℕ
callee_method_at = 144

-- where the spare bytes stand
abbrev pub spare_at : ℕ
spare_at = 145

-- how many they are
abbrev pub spare_size : ℕ
spare_size = 7

-- where the chat time stands, of eight bytes
abbrev pub chat_at : ℕ
chat_at = 152

-- the room of a Call-ID
abbrev pub call_id_room : ℕ
call_id_room = 64

-- the room of each of the three other texts
abbrev pub party_room : ℕ
party_room = 15

-- the bytes that a text may take, behind its length
abbrev pub room_at : ℕ → ℕ → List ℕ → List ℕ
room_at at room r = take room (drop (at + 1) r)

-- the text whose length stands at a place: so many of its room's first bytes
unfoldable pub room_text : ℕ → ℕ → List ℕ → List ℕ
room_text at room r = take (get_or r at 0) (room_at at room r)

-- the Call-ID
abbrev pub record_call_id : List ℕ → List ℕ
record_call_id r = room_text call_id_at call_id_room r

-- the user
abbrev pub record_user : List ℕ → List ℕ
record_user r = room_text user_at party_room r

-- the caller's Fire-ID
abbrev pub record_caller_fire : List ℕ → List ℕ
record_caller_fire r = room_text caller_fire_at party_room r

-- the callee's Fire-ID
abbrev pub record_callee_fire : List ℕ → List ℕ
record_callee_fire r = room_text callee_fire_at party_room r

-- the number of n bytes at a place
abbrev pub record_number : ℕ → ℕ → List ℕ → ℕ
record_number at n r = big_endian (take n (drop at r))

-- the numbers of a record
unfoldable pub record_fields : List ℕ → Fields
record_fields r =
    record {
      state = get_or r state_at 0;
      secure = get_or r secure_at 0;
      invite = record_number invite_at 4 r;
      caller = record_number caller_at 4 r;
      callermethod = get_or r caller_method_at 0;
      callee = record_number callee_at 4 r;
      calleemethod = get_or r callee_method_at 0;
      last = record_number last_at 8 r;
      entry = record_number entry_at 8 r;
      chat = record_number chat_at 8 r;
    }

-- the bytes from Secure-Call to before the last time
unfoldable pub counts_of : Fields → List ℕ
counts_of f =
    (f.secure ∷ f.callermethod ∷ [])
    ++ (bytes_of 4 f.invite
    ++ (bytes_of 4 f.caller
    ++ bytes_of 4 f.callee))

-- the bytes from the last time to the record's end
unfoldable pub times_of : Fields → List ℕ
times_of f =
    bytes_of 8 f.last
    ++ (bytes_of 8 f.entry
    ++ ((f.calleemethod ∷ replicate spare_size 0)
    ++ bytes_of 8 f.chat))

-- the bytes of the numbers but for the state
abbrev pub numbers_of : Fields → List ℕ
numbers_of f = counts_of f ++ times_of f

-- a record of its numbers and the bytes of its four texts
unfoldable pub record_of : Fields → List ℕ → List ℕ
record_of f texts = (f.state ∷ []) ++ (texts ++ numbers_of f)

-- the bytes of the four texts, with their lengths
abbrev pub texts_of : List ℕ → List ℕ
texts_of r = take (secure_at - call_id_at) (drop call_id_at r)

-- a text's length, the text, and 00 in what it leaves of its room
unfoldable pub slot_of : ℕ → List ℕ → List ℕ
slot_of room s = (length s ∷ []) ++ (s ++ replicate (room - length s) 0)

-- the record with other numbers, its texts as they were
abbrev pub with_fields : List ℕ → Fields → List ℕ
with_fields r f = record_of f (texts_of r)

-- a new record: Call-ID, user, caller's Fire-ID, callee's Fire-ID, and the numbers
unfoldable pub new_record : List ℕ → List ℕ → List ℕ → List ℕ → Fields → List ℕ
new_record call_id user callerFire calleeFire f =
    record_of f (slot_of call_id_room call_id ++ (slot_of party_room user ++ (slot_of party_room callerFire ++ slot_of party_room calleeFire)))

-- a record is free if its state is 0; in a well-formed table it is then all 00
abbrev pub is_free : List ℕ → Bool
is_free r = eqb (get_or r state_at 0) 0

-- a record is a call's if it is not free and holds its Call-ID
unfoldable pub is_named : List ℕ → List ℕ → Bool
is_named id r = not (is_free r) && same (record_call_id r) id

-- user, caller's Fire-ID and callee's Fire-ID are those of the record
unfoldable pub same_parties : List ℕ → List ℕ → List ℕ → List ℕ → Bool
same_parties user callerFire calleeFire r =
    same (record_user r) user && (same (record_caller_fire r) callerFire && same (record_callee_fire r) calleeFire)
