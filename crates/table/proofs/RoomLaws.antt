-- The room of a text that has 00 behind it: the text decides it, so rooms that differ hold two texts. Each record that is
-- well-formed by itself has such a Call-ID. Assumes nothing.
use Prim.Native.Nat.{ℕ, ◌+◌, ◌-◌, ◌≤◌, ◌<◌}
use Rattle.octets.proofs.TextLaws.{eq-same, ne_same}
use Rattle.octets.specs.Class.{all}
use Rattle.octets.specs.Text.{same}
use Rattle.octets.proofs.TestLaws.{clash, and_left, and_right, Either, either}
use Rattle.rules.specs.Texts.{call_id_rule}
use Rattle.table.proofs.ImageLaws.{length_record}
use Rattle.table.proofs.SearchLaws.{every-at}
use Rattle.table.proofs.SoundLaws.{texts_of_lem}
use Rattle.table.specs.Image.{record_at, record_size, record_count}
use Rattle.table.specs.Record.{call_id_at, call_id_room, is_free, room_at, room_text}
use Rattle.table.specs.WellFormed.{apart, is_zero, padded, record_sound, records_sound, slot_sound, texts_sound, used_sound, zeros}
use borrow.Author.Tests.{eqb-true, leb-true}
use lib.Dec.{eqb, leb}
use lib.ListN.{length, get_or, take, drop, replicate, length-drop, take-append-drop}
use lib.Seq.{length-take-le, take_all, take-suc}
use mathlib.Core.Bool.{Bool, true, false, not, ◌&&◌, ◌||◌}
use mathlib.Core.List.{List, [], ◌∷◌, ◌++◌}
use mathlib.Core.Logic.{inl, inr}
use mathlib.Core.Path.{◌≡◌, refl, sym, ap, ◌∙◌}
use native.Mathlib.Numerals.{add-one}
use native.Mathlib.Omega.{arith}

-- The comparison, one byte at a time.

same_snoc : (a b : List ℕ) (x y : ℕ) → length a ≡ length b → same (a ++ (x ∷ [])) (b ++ (y ∷ [])) ≡ (same a b && eqb x y)
unfolding same
same_snoc [] [] x y e = go (eqb x y)
  where
    go : (t : Bool) → (t && true) ≡ t
    go true = refl
    go false = refl
same_snoc [] (w ∷ b) x y e = absurd (omega arith)
same_snoc (v ∷ a) [] x y e = absurd (omega arith)
same_snoc (v ∷ a) (w ∷ b) x y e = rw (same_snoc a b x y (omega arith)) (go (eqb v w))
  where
    go : (t : Bool) → (t && (same a b && eqb x y)) ≡ ((t && same a b) && eqb x y)
    go true = refl
    go false = refl

pub same_none : (a b : List ℕ) → true ≡ same (take 0 a) (take 0 b)
unfolding same
same_none a b = refl

module _ (a b : List ℕ) (i : ℕ) (e : length a ≡ length b) where
  pub same_more : i < length a → (same (take i a) (take i b) && eqb (get_or a i 0) (get_or b i 0)) ≡ same (take (i + 1) a) (take (i + 1) b)
  same_more h =
      let l : length (take i a) ≡ length (take i b) =
      length-take-le i a (omega arith) ∙ sym (length-take-le i b (omega arith)) in
      rw (add-one, take-suc a i 0 h, take-suc b i 0 (omega arith)) (sym (same_snoc (take i a) (take i b) (get_or a i 0) (get_or b i 0) l))

-- The room.

-- bytes that are all 00
pub zeros-are : (s : List ℕ) → zeros s ≡ true → s ≡ replicate (length s) 0
unfolding all
zeros-are [] e = refl
zeros-are (x ∷ s) e =
    let p : x ≡ 0 = eqb-true x 0 (and_left (is_zero x) (zeros s) e) in
    let q : s ≡ replicate (length s) 0 = zeros-are s (and_right (is_zero x) (zeros s) e) in
    cc

-- the room of a text that has 00 behind it
room-is : (at room : ℕ) (r : List ℕ) → at + 1 + room ≤ length r → padded at room r ≡ true
    → room_at at room r ≡ room_text at room r ++ replicate (room - length (room_text at room r)) 0
unfolding padded room_text
room-is at room r h e =
    let n : ℕ = get_or r at 0 in
    let w : List ℕ = room_at at room r in
    let l : length w ≡ room = length-take-le room (drop (at + 1) r) (rw length-drop (omega arith)) in
    let fits : n ≤ room = leb-true n room (and_left (leb n room) (zeros (drop n w)) e) in
    let m : length (take n w) ≡ n = length-take-le n w (omega arith) in
    let k : length (drop n w) ≡ room - n = length-drop n w ∙ ap (λ (x : ℕ). x - n) l in
    let z : drop n w ≡ replicate (room - n) 0 =
    zeros-are (drop n w) (and_right (leb n room) (zeros (drop n w)) e) ∙ ap (λ (x : ℕ). replicate x 0) k in
    sym (take-append-drop n w) ∙ rw (z, m)

-- rooms that differ, of Call-IDs with 00 behind them
pub rooms-apart : (r s : List ℕ) → length r ≡ record_size → length s ≡ record_size → padded call_id_at call_id_room r ≡ true
    → padded call_id_at call_id_room s ≡ true → same (room_at call_id_at call_id_room r) (room_at call_id_at call_id_room s) ≡ false
    → true ≡ apart r s
unfolding apart
rooms-apart r s l m p q d =
    rw (ne_same (room_text 1 64 r) (room_text 1 64 s) (λ e. clash (eq-same _ _ (alike e)) d)) (go (is_free r) (is_free s))
  where
    alike : room_text 1 64 r ≡ room_text 1 64 s → room_at 1 64 r ≡ room_at 1 64 s
    alike e = room-is 1 64 r (omega arith) p ∙ rw e (sym (room-is 1 64 s (omega arith) q))

    go : (a b : Bool) → true ≡ (a || (b || not false))
    go true b = refl
    go false true = refl
    go false false = refl

-- The Call-ID of a record that is well-formed by itself has 00 behind it.

record_padded : (r : List ℕ) → length r ≡ record_size → record_sound r ≡ true → padded call_id_at call_id_room r ≡ true
unfolding record_sound used_sound texts_sound slot_sound padded all
record_padded r l e = go (either (zeros r))
  where
    go : Either (zeros r) → padded call_id_at call_id_room r ≡ true
    go (inl w) = let z : r ≡ replicate 160 0 = zeros-are r w ∙ ap (λ (n : ℕ). replicate n 0) l in rw z
    go (inr w) =
        let u : used_sound r ≡ true = rw w at e in
        and_left (padded 1 64 r) _ (and_left (slot_sound call_id_rule 1 64 r) _ (texts_of_lem r u))

pub call_id_padded : (t : List ℕ) (k : ℕ) {r : List ℕ} → records_sound t ≡ true → k < record_count t → r ≡ record_at t k
    → padded call_id_at call_id_room r ≡ true
unfolding records_sound
call_id_padded t k s h e =
    rw e (record_padded (record_at t k) (length_record t k h) (every-at (λ k. record_sound (record_at t k)) (record_count t) k s h))
