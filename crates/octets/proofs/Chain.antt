-- Parts written one after the other: `At` makes a chain of puts cheap, one `more` for each. Assumes nothing.
use Prim.Native.Nat.{ℕ, ◌+◌, ◌≤◌, ◌<◌}
use Rattle.octets.specs.Splice.{splice, written}
use borrow.Rule.Slice.PartMut.{put_mid}
use lib.ListN.{length, take, drop, set, length-append, length-drop}
use lib.Seq.{take-append_seam, drop-append-add, drop-drop, length-take-le, set_split}
use mathlib.Core.List.{List, [], ◌∷◌, ◌++◌, append_assoc}
use mathlib.Core.Path.{◌≡◌, refl, ◌∙◌}
use native.Mathlib.Nat.{add-sub_of_le}
use native.Mathlib.Numerals.{add-one}
use native.Mathlib.Omega.{arith}

-- a part of the buffer that is written over, by one of its length, is a splice
pub splice_mid : (o : List ℕ) (at : ℕ) (p : List ℕ) → put_mid at (length p) o p ≡ splice o at p
unfolding splice
splice_mid o at p = rw (drop-drop (length p) at o)

pub length-splice : (o : List ℕ) (at : ℕ) (p : List ℕ) → at + length p ≤ length o → length (splice o at p) ≡ length o
unfolding splice
length-splice o at p h = simp (length-append, length-drop, length-take-le at o (omega arith)) (omega arith)

pub length-written : (o w : List ℕ) → length w ≤ length o → length (written o w) ≡ length o
unfolding written
length-written o w h = simp (length-append, length-drop) (add-sub_of_le h)

-- two parts written one behind the other are one
pub splice-two : (o : List ℕ) (at : ℕ) (a b : List ℕ) → at + length a ≤ length o → splice (splice o at a) (at + length a) b ≡ splice o at (a ++ b)
unfolding splice
splice-two o at a b h =
    let l : length (take at o ++ a) ≡ at + length a = length-append (take at o) a ∙ rw (length-take-le at o (omega arith)) in
    let k : at + length a + length b ≡ at + (length a + length b) = omega arith in
    rw (← append_assoc (take at o) a (drop (at + length a) o), ← l, take-append_seam, drop-append-add, l, drop-drop, length-append, k) (simp append_assoc)

-- one byte stored
pub set-one : (o : List ℕ) (at x : ℕ) → at < length o → set o at x ≡ splice o at (x ∷ [])
unfolding splice
set-one o at x h = rw (set_split o at x h, add-one)

-- what stands before a part, and the part
pub take-splice : (o : List ℕ) (at : ℕ) (p : List ℕ) → at ≤ length o → take (at + length p) (splice o at p) ≡ take at o ++ p
unfolding splice
take-splice o at p h =
    let l : length (take at o ++ p) ≡ at + length p = length-append (take at o) p ∙ rw (length-take-le at o h) in
    rw (← append_assoc (take at o) p (drop (at + length p) o), ← l) (take-append_seam (take at o ++ p) _)

-- one more part behind w
put_on : (o w p : List ℕ) → splice (written o w) (length w) p ≡ written o (w ++ p)
unfolding splice written
put_on o w p = rw (take-append_seam, drop-append-add, drop-drop, length-append, append_assoc)

-- out is o with w at its front, and n is the place behind w
pub record At (o w out : List ℕ) (n : ℕ) : Type 0 where
  pub is : out ≡ written o w
  pub place : n ≡ length w

pub start : (o : List ℕ) → At o [] o 0
unfolding written
start o = record { is = refl; place = refl }

-- one more `put`, by what it ensures
pub more : {o w out : List ℕ} {n : ℕ} {out' : List ℕ} {r : ℕ} (p : List ℕ) → At o w out n → (r ≡ n + length p) × (out' ≡ splice out n p) → At o (w ++ p) out' r
more {o} {w} p a e = record {
  is = e.1 ∙ rw (a.is, a.place) (put_on o w p);
  place = e.0 ∙ rw (a.place, length-append w p);
}

-- there is room for one more part
pub room : {o w out : List ℕ} {n : ℕ} (p : List ℕ) → At o w out n → length (w ++ p) ≤ length o → n + length p ≤ length out
room {o} {w} p a h =
    let k : length w + length p ≤ length o = rw length-append at h in
    rw (a.is, a.place) (rw (length-written o w (omega arith)) k)

pub length_at : {o w out : List ℕ} {n : ℕ} → At o w out n → length w ≤ length o → length out ≡ length o
length_at {o} {w} a h = rw a.is (length-written o w h)
