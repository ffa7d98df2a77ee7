-- Each answer of the functions that test a table, as a law over plain variables. Assumes nothing.
use Prim.Native.Nat.{ℕ, ◌+◌, ◌*◌, ◌≤◌, ◌<◌}
use Rattle.octets.proofs.ClassLaws.{among_in, among-low, among-high, in_among}
use Rattle.octets.specs.Class.{among, all}
use Rattle.octets.proofs.NumberLaws.{capacity, number-below}
use Rattle.octets.specs.Number.{big_endian}
use Rattle.octets.specs.Text.{same}
use Rattle.octets.proofs.TestLaws.{and_left, and_right}
use Rattle.table.specs.Image.{record_count, header_of}
use Rattle.table.specs.Record.{record_fields}
use Rattle.table.specs.WellFormed.{zeros, fields_sound, spare_sound, texts_sound, used_sound, record_sound, records_sound, distinct, frame_sound, well_formed}
use borrow.Author.Tests.{eq-eqb, ne_eqb}
use lib.Dec.{eqb}
use lib.ListN.{length, get_or, take, drop, length-drop}
use lib.Seq.{length-take-le, get_or-take, get_or-drop}
use mathlib.Core.Bool.{Bool, true, false, and-false, or-false}
use mathlib.Core.List.{List, [], ◌∷◌}
use mathlib.Core.Path.{◌≡◌, refl, sym, ap, ◌∙◌}
use native.Mathlib.Omega.{arith}

-- The frame.

module _ (t : List ℕ) (n : ℕ) (e : n ≡ record_count t) where
  pub frame-few : n < 1 → false ≡ frame_sound t
  unfolding frame_sound
  frame-few h = rw (among-low 1 255 (record_count t) (omega arith)) (sym (and-false (eqb (length t) (16 + 160 * record_count t))))

  pub frame-many : 255 < n → false ≡ frame_sound t
  unfolding frame_sound
  frame-many h = rw (among-high 1 255 (record_count t) (omega arith) (omega arith)) (sym (and-false (eqb (length t) (16 + 160 * record_count t))))

  pub frame-length : (length t ≡ 16 + 160 * n → ⊥) → false ≡ frame_sound t
  unfolding frame_sound
  frame-length ne = rw (ne_eqb (length t) (16 + 160 * record_count t) (λ w. ne (omega arith)))

  pub frame_header : {h : List ℕ} {b : Bool} → 1 ≤ n → n ≤ 255 → length t ≡ 16 + 160 * n → h ≡ header_of n → b ≡ same (take 16 t) h
      → b ≡ frame_sound t
  unfolding frame_sound
  frame_header lo hi l p q =
      rw (eq-eqb (length t) (16 + 160 * record_count t) (omega arith), in_among 1 255 (record_count t) (omega arith) (omega arith), ← e, ← p) q

-- One record.

pub record_free : (r : List ℕ) {b : Bool} → get_or r 0 0 ≡ 0 → b ≡ zeros r → b ≡ record_sound r
unfolding record_sound used_sound fields_sound record_fields
record_free r e q = rw (among-low 1 6 (get_or r 0 0) (omega arith)) (q ∙ sym (or-false (zeros r)))

not_zeros : (r : List ℕ) → (get_or r 0 0 ≡ 0 → ⊥) → zeros r ≡ false
unfolding all
not_zeros [] ne = absurd (ne refl)
not_zeros (x ∷ r) ne = rw (ne_eqb x 0 ne)

pub texts_of_lem : (r : List ℕ) → used_sound r ≡ true → texts_sound r ≡ true
unfolding used_sound
texts_of_lem r u = and_right (spare_sound r) _ (and_right (fields_sound (record_fields r)) _ u)

pub record_used : (r : List ℕ) {b : Bool} → (get_or r 0 0 ≡ 0 → ⊥) → b ≡ used_sound r → b ≡ record_sound r
unfolding record_sound
record_used r ne q = rw (not_zeros r ne) q

-- The whole.

module _ (t : List ℕ) where
  pub frame-broken : frame_sound t ≡ false → false ≡ well_formed t
  unfolding well_formed
  frame-broken e = rw e

  pub record_broken : frame_sound t ≡ true → records_sound t ≡ false → false ≡ well_formed t
  unfolding well_formed
  record_broken e f = rw (e, f)

  pub only-distinct : {b : Bool} → frame_sound t ≡ true → records_sound t ≡ true → b ≡ distinct t → b ≡ well_formed t
  unfolding well_formed
  only-distinct e f q = rw (e, f) q

  -- a table with a right frame has at most 255 records
  pub frame-size : frame_sound t ≡ true → record_count t ≤ 255
  unfolding frame_sound
  frame-size e = (among_in 1 255 (record_count t) (and_left (among 1 255 (record_count t)) _ (and_right (eqb (length t) (16 + 160 * record_count t)) _ e))).1

-- a number of four bytes fits 32 bits
pub word-below : (s : List ℕ) (at : ℕ) → at + 4 ≤ length s → ((i : ℕ) → get_or s i 0 < 256) → big_endian (take 4 (drop at s)) < 4294967296
unfolding capacity
word-below s at h b =
    let l : length (take 4 (drop at s)) ≡ 4 = length-take-le 4 (drop at s) (simp length-drop (omega arith)) in
    number-below 4 (take 4 (drop at s)) l (record {
      each = λ k g. let q : k < 4 = omega arith in rw (get_or-take 4 (drop at s) k 0 q, get_or-drop at s k 0) (b (at + k));
    })

-- a test of a part is a test of what the part is
pub through : (f : List ℕ → Bool) {x y : List ℕ} {b v : Bool} → b ≡ f x → x ≡ y → b ≡ v → f y ≡ v
through f p q r = sym (ap f q) ∙ sym p ∙ r

pub through-both : (f : List ℕ → List ℕ → Bool) {x y z w : List ℕ} {b v : Bool} → b ≡ f x z → x ≡ y → z ≡ w → b ≡ v → f y w ≡ v
through-both f p q s r = rw (← q, ← s) (sym p ∙ r)
