-- A record that is stored is read back, the others and the header are as they were. Assumes nothing.
use Prim.Native.Nat.{ℕ, ◌+◌, ◌-◌, ◌*◌, ◌≤◌, ◌<◌}
use Rattle.octets.proofs.Chain.{length-splice}
use Rattle.octets.specs.Splice.{splice}
use Rattle.table.proofs.SpliceLaws.{take_of_drop, splice-itself, splice-part, splice-before, splice-behind, inside}
use Rattle.table.specs.Image.{base, record_count, record_at, with_record, free_record, header_size, record_size}
use Rattle.table.specs.Record.{is_free}
use borrow.Author.Tests.{eq-eqb, ne_eqb}
use lib.ListN.{length, get_or, take, drop, replicate, length-drop}
use lib.Seq.{length-take-le, get_or-take, get_or-drop}
use mathlib.Core.Bool.{true, false}
use mathlib.Core.List.{List}
use mathlib.Core.Path.{◌≡◌, sym, ap, ◌∙◌}
use native.Mathlib.Decide.{dec_lt}
use native.Mathlib.Nat.{add-zero, add-sub_cancel_left}
use native.Mathlib.Omega.{arith}

module _ (t : List ℕ) (k : ℕ) (h : k < record_count t) where
  pub room : base k + record_size ≤ length t
  room = omega arith

  pub length_record : length (record_at t k) ≡ record_size
  length_record = length-take-le record_size (drop (base k) t) (rw length-drop (omega arith))

  -- a record stored where it stands
  pub with_itself : with_record t k (record_at t k) ≡ t
  with_itself = splice-itself t (base k) record_size room

  -- a part stored within record k
  pub within_record : (off : ℕ) (p : List ℕ) → off + length p ≤ record_size
      → splice t (base k + off) p ≡ with_record t k (splice (record_at t k) off p)
  within_record off p g =
      let l : length (record_at t k) ≡ record_size = length_record in
      ap (λ (s : List ℕ). splice s (base k + off) p) (sym with_itself)
      ∙ inside t (base k) (record_at t k) off p (rw l room) (rw l g)

  module _ (x : List ℕ) (fit : length x ≡ record_size) where
    pub length_with : length (with_record t k x) ≡ length t
    length_with = length-splice t (base k) x (rw fit room)

    pub size_with : record_count (with_record t k x) ≡ record_count t
    size_with = rw length_with

    -- the same record
    pub with_same : record_at (with_record t k x) k ≡ x
    with_same = splice-part t (base k) x record_size (omega (arith, room)) fit

    -- another record
    pub with_other : (l : ℕ) → l < record_count t → (l ≡ k → ⊥) → record_at (with_record t k x) l ≡ record_at t l
    with_other l g ne = go (dec_lt l k)
      where
        go : Dec (l < k) → record_at (with_record t k x) l ≡ record_at t l
        go (yes b) =
            take_of_drop (base l) record_size (with_record t k x)
            ∙ ap (drop (base l)) (splice-before t (base k) x (base l + record_size) (omega arith) (omega (arith, room)))
            ∙ sym (take_of_drop (base l) record_size t)
        go (no b) =
            let e : base l ≡ base k + record_size + record_size * (l - k - 1) = omega arith in
            rw e (ap (take record_size) (splice-behind t (base k) x record_size (record_size * (l - k - 1)) fit (omega (arith, room))))

    -- the header
    pub with_header : take header_size (with_record t k x) ≡ take header_size t
    with_header = splice-before t (base k) x header_size (omega arith) (omega (arith, room))

-- a byte of record k is a byte of the table
pub byte_at : (t : List ℕ) (k j : ℕ) → j < record_size → get_or (record_at t k) j 0 ≡ get_or t (base k + j) 0
byte_at t k j h = get_or-take record_size (drop (base k) t) j 0 h ∙ get_or-drop (base k) t j 0

pub state-at : (t : List ℕ) (k : ℕ) → get_or (record_at t k) 0 0 ≡ get_or t (base k) 0
state-at t k = byte_at t k 0 (omega arith) ∙ rw add-zero

-- the code's cut of a part of n bytes
pub cut : (t : List ℕ) (a n : ℕ) → take (a + n - a) (drop a t) ≡ take n (drop a t)
cut t a n = rw (add-sub_cancel_left a n)

pub is_free_lem : (t : List ℕ) (k : ℕ) → get_or t (base k) 0 ≡ 0 → is_free (record_at t k) ≡ true
is_free_lem t k e = eq-eqb _ _ (state-at t k ∙ e)

pub not_free : (t : List ℕ) (k : ℕ) → (get_or t (base k) 0 ≡ 0 → ⊥) → is_free (record_at t k) ≡ false
not_free t k ne = ne_eqb _ _ (λ w. ne (sym (state-at t k) ∙ w))

-- the code's count of a record's bytes
pub released : (t : List ℕ) (k : ℕ) → splice t (base k) (replicate (base k + record_size - base k) 0) ≡ with_record t k free_record
released t k = rw (add-sub_cancel_left (base k) record_size)
