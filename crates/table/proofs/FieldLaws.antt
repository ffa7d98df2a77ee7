-- What a record is put together from is read back: its numbers, its four texts, its spare bytes. Each field is a piece between what
-- stands before it and what stands behind it. Assumes nothing.
use Prim.Native.Nat.{ℕ, zero, suc, ◌+◌, ◌-◌, ◌≤◌, ◌<◌}
use Rattle.octets.proofs.NumberLaws.{length-bytes_of, number-bytes, capacity}
use Rattle.octets.specs.Class.{all}
use Rattle.octets.specs.Number.{bytes_of, big_endian}
use Rattle.table.proofs.SpliceLaws.{take_of_drop}
use Rattle.table.specs.Record.{room_at, room_text, record_fields, counts_of, times_of, record_of, texts_of, slot_of}
use Rattle.table.specs.WellFormed.{zeros, padded, slot_sound, spare_sound}
use Rattle.table.specs.declared.numbers.Fields.{Fields}
use borrow.Author.Tests.{le-leb}
use lib.ListN.{length, get_or, take, drop, replicate, length-append, length-replicate}
use lib.Seq.{take_at, drop_at, get_or_at, get_or-take, get_or-drop, take-take, drop-drop, drop-append-add, take-append_seam, drop-append_seam}
use mathlib.Core.Bool.{Bool, true}
use mathlib.Core.List.{List, [], ◌∷◌, ◌++◌, append_assoc, append-nil}
use mathlib.Core.Path.{◌≡◌, refl, sym, ap, ◌∙◌}
use native.Mathlib.Omega.{arith}

-- the numbers of more than one byte are of their fields' widths
pub record Fits (f : Fields) : Type 0 where
  pub invite : f.invite < 4294967296
  pub caller : f.caller < 4294967296
  pub callee : f.callee < 4294967296
  pub last : f.last < 18446744073709551616
  pub entry : f.entry < 18446744073709551616
  pub chat : f.chat < 18446744073709551616

-- a piece between two others
piece : {l : List ℕ} (p q s : List ℕ) (a m : ℕ) → l ≡ p ++ (q ++ s) → length p ≡ a → length q ≡ m → take m (drop a l) ≡ q
piece p q s a m e h g = rw (e, drop_at p (q ++ s) a h) (take_at q s m g)

-- a number between two others, of n bytes
number : {l : List ℕ} (p s : List ℕ) (a n v : ℕ) → l ≡ p ++ (bytes_of n v ++ s) → length p ≡ a → v < capacity n
    → big_endian (take n (drop a l)) ≡ v
number p s a n v e h g = ap big_endian (piece p (bytes_of n v) s a n e h (length-bytes_of n v)) ∙ number-bytes n v g

four : (v : ℕ) → v < 4294967296 → v < capacity 4
unfolding capacity
four v h = h

eight : (v : ℕ) → v < 18446744073709551616 → v < capacity 8
unfolding capacity
eight v h = h

module _ (f : Fields) (x : List ℕ) (e : length x ≡ 113) where
  abbrev s : List ℕ
  s = f.state ∷ []

  abbrev front : List ℕ
  front = f.secure ∷ f.callermethod ∷ []

  abbrev middle : List ℕ
  middle = f.calleemethod ∷ replicate 7 0

  abbrev i4 : List ℕ
  i4 = bytes_of 4 f.invite

  abbrev c4 : List ℕ
  c4 = bytes_of 4 f.caller

  abbrev d4 : List ℕ
  d4 = bytes_of 4 f.callee

  abbrev l8 : List ℕ
  l8 = bytes_of 8 f.last

  abbrev e8 : List ℕ
  e8 = bytes_of 8 f.entry

  abbrev h8 : List ℕ
  h8 = bytes_of 8 f.chat

  -- what stands before each field
  abbrev before-invite : List ℕ
  before-invite = s ++ (x ++ front)

  abbrev before-caller : List ℕ
  before-caller = before-invite ++ i4

  abbrev before-callee : List ℕ
  before-callee = before-caller ++ c4

  abbrev before_last : List ℕ
  before_last = before-callee ++ d4

  abbrev before-entry : List ℕ
  before-entry = before_last ++ l8

  abbrev before-middle : List ℕ
  before-middle = before-entry ++ e8

  abbrev before-chat : List ℕ
  before-chat = before-middle ++ middle

  state-first : get_or (record_of f x) 0 0 ≡ f.state
  unfolding record_of
  state-first = refl

  at-secure : get_or (record_of f x) 114 0 ≡ f.secure
  unfolding record_of counts_of
  at-secure =
      let q : record_of f x ≡ (s ++ x) ++ (f.secure ∷ (f.callermethod ∷ (i4 ++ (c4 ++ d4)) ++ times_of f)) = simp append_assoc in
      rw q (get_or_at (s ++ x) f.secure _ 0 114 (simp (length-append, e)))

  at_callermethod : get_or (record_of f x) 115 0 ≡ f.callermethod
  unfolding record_of counts_of
  at_callermethod =
      let q : record_of f x ≡ (s ++ (x ++ (f.secure ∷ []))) ++ (f.callermethod ∷ ((i4 ++ (c4 ++ d4)) ++ times_of f)) = simp append_assoc in
      rw q (get_or_at (s ++ (x ++ (f.secure ∷ []))) f.callermethod _ 0 115 (simp (length-append, e)))

  at-invite : record_of f x ≡ before-invite ++ (i4 ++ (c4 ++ (d4 ++ times_of f)))
  unfolding record_of counts_of
  at-invite = simp append_assoc

  at_caller : record_of f x ≡ before-caller ++ (c4 ++ (d4 ++ times_of f))
  at_caller = at-invite ∙ simp append_assoc

  at-callee : record_of f x ≡ before-callee ++ (d4 ++ times_of f)
  at-callee = at_caller ∙ simp append_assoc

  at_last : record_of f x ≡ before_last ++ (l8 ++ (e8 ++ (middle ++ h8)))
  unfolding times_of
  at_last = at-callee ∙ simp append_assoc

  at_entry : record_of f x ≡ before-entry ++ (e8 ++ (middle ++ h8))
  at_entry = at_last ∙ simp append_assoc

  at-middle : record_of f x ≡ before-middle ++ (middle ++ h8)
  at-middle = at_entry ∙ simp append_assoc

  at-chat : record_of f x ≡ before-chat ++ (h8 ++ [])
  at-chat = at-middle ∙ simp (append_assoc, append-nil)

  length-before-invite : length before-invite ≡ 116
  length-before-invite = simp (length-append, e)

  length-before-last : length before_last ≡ 128
  length-before-last = simp (length-append, e, length-bytes_of)

  length-before-middle : length before-middle ≡ 144
  length-before-middle = simp (length-append, e, length-bytes_of)

  at_calleemethod : get_or (record_of f x) 144 0 ≡ f.calleemethod
  at_calleemethod = rw at-middle (get_or_at before-middle f.calleemethod (replicate 7 0 ++ h8) 0 144 length-before-middle)

  pub fields_read : Fits f → record_fields (record_of f x) ≡ f
  unfolding record_fields
  fields_read k =
      let p0 : get_or (record_of f x) 0 0 ≡ f.state = state-first in
      let p1 = at-secure in
      let p2 =
      number before-invite (c4 ++ (d4 ++ times_of f)) 116 4 f.invite at-invite length-before-invite (four f.invite k.invite)
      in
      let p3 =
      number before-caller (d4 ++ times_of f) 120 4 f.caller at_caller (simp (length-append, e, length-bytes_of))
      (four f.caller k.caller) in
      let p4 = at_callermethod in
      let p5 =
      number before-callee (times_of f) 124 4 f.callee at-callee (simp (length-append, e, length-bytes_of))
      (four f.callee k.callee) in
      let p6 = at_calleemethod in
      let p7 = number before_last (e8 ++ (middle ++ h8)) 128 8 f.last at_last length-before-last (eight f.last k.last) in
      let p8 =
      number before-entry (middle ++ h8) 136 8 f.entry at_entry (simp (length-append, e, length-bytes_of))
      (eight f.entry k.entry) in
      let p9 = number before-chat [] 152 8 f.chat at-chat (simp (length-append, e, length-bytes_of)) (eight f.chat k.chat) in
      λ i. record {
        state =
            p0 i;
        secure = p1 i;
        invite = p2 i;
        caller = p3 i;
        callermethod = p4 i;
        callee = p5 i;
        calleemethod = p6 i;
        last = p7 i;
        entry = p8 i;
        chat = p9 i;
      }

  pub texts-read : texts_of (record_of f x) ≡ x
  unfolding record_of
  texts-read = take_at x (counts_of f ++ times_of f) 113 e

  pub spare-zero : spare_sound (record_of f x) ≡ true
  unfolding all
  spare-zero =
      let q : record_of f x ≡ (before-middle ++ (f.calleemethod ∷ [])) ++ (replicate 7 0 ++ h8) = at-middle ∙ simp append_assoc in
      ap zeros (piece (before-middle ++ (f.calleemethod ∷ [])) (replicate 7 0) h8 145 7 q (simp (length-append, e, length-bytes_of)) refl)

-- a piece of a front is a piece of the whole
piece_of : (n j m : ℕ) (l : List ℕ) → j + n ≤ m → take n (drop j (take m l)) ≡ take n (drop j l)
piece_of n j m l h = rw (take_of_drop j n (take m l), take-take (j + n) m l h) (sym (take_of_drop j n l))

-- the texts are read from their own bytes alone
module _ (r : List ℕ) (a room : ℕ) (h : a + 1 + room ≤ 113) where
  same_byte : get_or (texts_of r) a 0 ≡ get_or r (1 + a) 0
  same_byte = get_or-take 113 (drop 1 r) a 0 (omega arith) ∙ get_or-drop 1 r a 0

  same-room : room_at a room (texts_of r) ≡ room_at (1 + a) room r
  same-room =
      piece_of room (a + 1) 113 (drop 1 r) h ∙ ap (take room)
      (drop-drop (a + 1) 1 r ∙ ap (λ (n : ℕ). drop n r) (let z : 1 + (a + 1) ≡ 1 + a + 1 = omega arith in z))

  pub text-own : room_text a room (texts_of r) ≡ room_text (1 + a) room r
  unfolding room_text
  text-own = rw (same_byte, same-room)

  pub padded-own : padded a room (texts_of r) ≡ padded (1 + a) room r
  unfolding padded
  padded-own = rw (same_byte, same-room)

  pub slot_own : (rule : List ℕ → Bool) → slot_sound rule a room (texts_of r) ≡ slot_sound rule (1 + a) room r
  unfolding slot_sound
  slot_own rule = rw (text-own, padded-own)

pub zeros-replicate : (n : ℕ) → zeros (replicate n 0) ≡ true
unfolding all
zeros-replicate zero = refl
zeros-replicate (suc n) = zeros-replicate n

-- a text that is written into its room is read back
module _ {l : List ℕ} (p s q : List ℕ) (a room : ℕ) (is : l ≡ p ++ (slot_of room s ++ q)) (e : length p ≡ a) (h : length s ≤ room) where
  abbrev pad : List ℕ
  pad = replicate (room - length s) 0

  byte-first : get_or l a 0 ≡ length s
  unfolding slot_of
  byte-first = rw is (get_or_at p (length s) ((s ++ pad) ++ q) 0 a e)

  room-behind : room_at a room l ≡ s ++ pad
  unfolding slot_of
  room-behind =
      let d : drop (a + 1) (p ++ (length s ∷ ((s ++ pad) ++ q))) ≡ (s ++ pad) ++ q =
      ap (λ (n : ℕ). drop (n + 1) (p ++ (length s ∷ ((s ++ pad) ++ q)))) (sym e) ∙ drop-append-add p (length s ∷ ((s ++ pad) ++ q)) 1 in
      rw (is, d) (take_at (s ++ pad) q room (simp (length-append, length-replicate) (omega arith)))

  pub text-read : room_text a room l ≡ s
  unfolding room_text
  text-read = rw (byte-first, room-behind) (take-append_seam s pad)

  padded-read : padded a room l ≡ true
  unfolding padded
  padded-read = rw (byte-first, room-behind, le-leb (length s) room h, drop-append_seam s pad) (zeros-replicate (room - length s))

  pub slot_read : (rule : List ℕ → Bool) → rule s ≡ true → slot_sound rule a room l ≡ true
  unfolding slot_sound
  slot_read rule t = rw (padded-read, text-read) t
