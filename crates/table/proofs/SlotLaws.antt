-- The texts of a record: what the code cuts and writes is what the definitions say. Assumes nothing.
use Prim.Native.Nat.{ℕ, ◌+◌, ◌-◌, ◌≤◌, ◌<◌}
use Rattle.octets.proofs.ClassLaws.{all_append}
use Rattle.octets.specs.Class.{all}
use Rattle.octets.specs.Splice.{splice}
use Rattle.table.proofs.SpliceLaws.{take_of_drop, Run, further}
use Rattle.table.specs.Record.{room_at, room_text, slot_of}
use Rattle.table.specs.WellFormed.{padded, is_zero, zeros}
use Rattle.octets.proofs.TestLaws.{Either, either}
use Rattle.std.specs.Prelude.{min, leb}
use borrow.Author.Tests.{le-leb, lt-leb, leb-true, leb-false}
use mathlib.Core.Logic.{inl, inr}
use lib.ListN.{length, get_or, take, drop, replicate, length-drop, length-append, length-replicate}
use lib.Seq.{take-suc, take-take, take_all, length-take-le, drop-drop}
use mathlib.Core.Bool.{Bool, true, false, ◌&&◌, and-true}
use mathlib.Core.List.{List, [], ◌∷◌, ◌++◌, append_assoc}
use mathlib.Core.Path.{◌≡◌, refl, sym, ap, ◌∙◌}
use native.Mathlib.Nat.{add-sub_cancel_left}
use native.Mathlib.Numerals.{add-one}
use native.Mathlib.Omega.{arith}

module _ (r : List ℕ) (at room n : ℕ) (fits : at + 1 + room ≤ length r) (len : n ≡ get_or r at 0) where
  room-length : length (room_at at room r) ≡ room
  room-length = length-take-le room (drop (at + 1) r) (rw length-drop (omega arith))

  -- a text within its room
  text-short : n ≤ room → take (at + 1 + n - (at + 1)) (drop (at + 1) r) ≡ room_text at room r
  unfolding room_text
  text-short h = rw (add-sub_cancel_left (at + 1) n, ← len) (sym (take-take n room (drop (at + 1) r) h))

  -- a length beyond the room: all of it
  text-long : room < n → take (at + 1 + room - (at + 1)) (drop (at + 1) r) ≡ room_text at room r
  unfolding room_text
  text-long h = rw (add-sub_cancel_left (at + 1) room, ← len) (sym (take_all n (room_at at room r) (rw room-length (omega arith))))

  -- the one or the other
  pub text-cut : (k : ℕ) → k ≡ min n room → take (at + 1 + k - (at + 1)) (drop (at + 1) r) ≡ room_text at room r
  text-cut k e = go (either (leb n room))
    where
      go : Either (leb n room) → take (at + 1 + k - (at + 1)) (drop (at + 1) r) ≡ room_text at room r
      go (inl w) = let h : n ≤ room = leb-true n room w in let q : k ≡ n = omega arith in rw q (text-short h)
      go (inr w) = let h : room < n = leb-false n room w in let q : k ≡ room = omega arith in rw q (text-long h)

  -- what the text leaves of its room
  pub rest-zero : n ≤ room → zeros (take (at + 1 + room - (at + 1 + n)) (drop (at + 1 + n) r)) ≡ padded at room r
  unfolding padded
  rest-zero h =
      let e : take (at + 1 + room - (at + 1 + n)) (drop (at + 1 + n) r) ≡ drop n (room_at at room r) =
      let m : at + 1 + room - (at + 1 + n) ≡ room - n = omega arith in
      let q : n + (room - n) ≡ room = omega arith in
      rw (m, ← drop-drop n (at + 1) r, take_of_drop n (room - n) (drop (at + 1) r), q) in
      rw (← len, le-leb n room h) (ap zeros e)

  pub not-padded : room < n → false ≡ padded at room r
  unfolding padded
  not-padded h = rw (← len, lt-leb n room h)

-- a slot's length
pub length_slot : (room : ℕ) (s : List ℕ) → length s ≤ room → length (slot_of room s) ≡ room + 1
unfolding slot_of
length_slot room s h = simp (length-append, length-replicate) (omega arith)

-- a text written into its room, piece by piece
pub slot_written : (o : List ℕ) (at room : ℕ) (s : List ℕ) {a b c : List ℕ} {e : ℕ} → length s ≤ room → at + 1 + room ≤ length o
    → a ≡ splice o at (length s ∷ []) → (e ≡ at + 1 + length s) × (b ≡ splice a (at + 1) s) → c ≡ splice b e
    (replicate (at + 1 + room - e) 0)
    → c ≡ splice o at (slot_of room s)
unfolding slot_of
slot_written o at room s {a} {b} {c} {e} h g p q r =
    let k : at + 1 + room - e ≡ room - length s = let w = q.0 in omega arith in
    let r1 : Run o at (length s ∷ []) 1 a = record { is = p; long = refl } in
    let r2 : Run o at ((length s ∷ []) ++ s) (1 + length s) b = further s (length s) r1 (omega arith) refl refl q.1 in
    let r3 = further (replicate (room - length s) 0) (room - length s) r2 (omega arith) (length-replicate (room - length s) 0)
    (let w = q.0 in omega arith) (rw k at r) in
    r3.is ∙ simp append_assoc

-- 00 so far, and one byte more
pub zeros-none : (s : List ℕ) → true ≡ zeros (take 0 s)
unfolding all
zeros-none s = refl

pub zeros-more : (s : List ℕ) (i : ℕ) → i < length s → (zeros (take i s) && is_zero (get_or s i 0)) ≡ zeros (take (i + 1) s)
unfolding all
zeros-more s i h = rw (add-one, take-suc s i 0 h, all_append is_zero (take i s) (get_or s i 0 ∷ []), and-true (is_zero (get_or s i 0)))
