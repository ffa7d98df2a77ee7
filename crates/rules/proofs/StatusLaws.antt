-- The table of status texts of `src/statuses.rt`, held to its definition by one test, and the search for a code. Assumes nothing.
use Prim.Native.Nat.{◌+◌, ◌-◌, ◌<◌, ◌≤◌, suc, ℕ}
use mathlib.Core.Bool.{Bool, ◌&&◌, false, true, cond}
use mathlib.Core.List.{List, ◌++◌, ◌∷◌, []}
use mathlib.Core.Path.{◌≡◌, refl, sym}
use native.Mathlib.Numerals.{add-one}
use native.Mathlib.Omega.{arith}
use borrow.Author.Tests.{eq-eqb, ne_eqb}
use lib.Dec.{T, eqb, eqb→eq, leb, leb→le}
use lib.ListN.{get_or-eq_default, drop, get_or, length, take}
use lib.Seq.{drop-cons}
use Rattle.octets.proofs.ClassLaws.{among_in}
use Rattle.octets.proofs.TestLaws.{and_parts}
use Rattle.octets.specs.Ascii.{ascii}
use Rattle.octets.specs.Class.{among}
use Rattle.octets.specs.Text.{stands_at}
use Rattle.rules.proofs.Table.{and_left, and_right, at, equal, equal_is}
use Rattle.rules.specs.Pieces.{piece_end, digits, fixed, free, has_piece, number, reads, decimal_at}
use Rattle.rules.specs.Status.{codes, index_in, status_of, status_rule, status_text, texts}
use Rattle.std.specs.Prelude.{None, Some}

module _ (l : List ℕ) (x i : ℕ) (h : i < length l) where
  pub hit : get_or l i 0 ≡ x → index_in (drop i l) x ≡ 0
  unfolding index_in
  hit e = rw (drop-cons l i 0, eq-eqb _ _ e)

  pub miss : (get_or l i 0 ≡ x → ⊥) → index_in (drop i l) x ≡ suc (index_in (drop (i + 1) l) x)
  unfolding index_in
  miss e = rw (add-one, drop-cons l i 0, ne_eqb _ _ e)

-- the texts one after the other, and where each begins
abbrev pub phrases : List ℕ
phrases =
    ascii "100 Trying180 Ringing200 OK202 Accepted400 Bad Request404 Not Found405 Method Not Allowed"
    ++ ascii "481 Call/Transaction Does Not Exist486 Busy Here487 Request Terminated488 Not Acceptable Here500 Server Internal Error501 Not Implemented503 Service Unavailable"

abbrev pub starts : List ℕ
starts = 0 ∷ 10 ∷ 21 ∷ 27 ∷ 39 ∷ 54 ∷ 67 ∷ 89 ∷ 124 ∷ 137 ∷ 159 ∷ 182 ∷ 207 ∷ 226 ∷ 249 ∷ []

-- the text from one start to the next
abbrev cut : ℕ → List ℕ
cut k = take (get_or starts (k + 1) 0 - get_or starts k 0) (drop (get_or starts k 0) phrases)

right : ℕ → Bool
right k =
    (leb (get_or starts k 0) (get_or starts (k + 1) 0) && leb (get_or starts (k + 1) 0) 249)
    && (equal (cut k) (get_or texts k [])
    && (leb (length (get_or texts k [])) 35 && eqb (get_or starts (k + 1) 0 - get_or starts k 0) (length (get_or texts k []))))

pub record Row (k : ℕ) : Type 0 where
  pub rises : get_or starts k 0 ≤ get_or starts (k + 1) 0
  pub inside : get_or starts (k + 1) 0 ≤ 249
  pub is : take (get_or starts (k + 1) 0 - get_or starts k 0) (drop (get_or starts k 0) phrases) ≡ get_or texts k []
  pub short : length (get_or texts k []) ≤ 35
  pub long : get_or starts (k + 1) 0 - get_or starts k 0 ≡ length (get_or texts k [])

-- the rule of the table, by one test over it
pub row : (k : ℕ) → k < 14 → Row k
unfolding right
row k h =
    let a = leb (get_or starts k 0) (get_or starts (k + 1) 0) in
    let b = leb (get_or starts (k + 1) 0) 249 in
    let d = equal (cut k) (get_or texts k []) in
    let g = leb (length (get_or texts k [])) 35 in
    let q = eqb (get_or starts (k + 1) 0 - get_or starts k 0) (length (get_or texts k [])) in
    let f = g && q in
    let t : T ((a && b) && (d && f)) = at right 14 tt k h in
    let l = and_left (a && b) (d && f) t in
    let r = and_right (a && b) (d && f) t in
    record {
      rises = leb→le _ _ (and_left a b l);
      inside = leb→le _ _ (and_right a b l);
      is = equal_is (cut k) (get_or texts k []) (and_left d f r);
      short = leb→le _ _ (and_left g q (and_right d f r));
      long = eqb→eq _ _ (and_right g q (and_right d f r));
    }

module _ (k code : ℕ) (e : k ≡ index_in codes code) where
  pub part-is : k < 14 → take (get_or starts (k + 1) 0 - get_or starts k 0) (drop (get_or starts k 0) phrases) ≡ status_text code
  unfolding status_text
  part-is h = rw (← e) (row k h).is

  pub length-is : k < 14 → (get_or starts (k + 1) 0 - get_or starts k 0 ≡ length (status_text code)) × (get_or starts (k + 1) 0 - get_or starts k 0 ≤ 35)
  unfolding status_text
  length-is h = rw (← e) ((row k h).long, omega (arith, (row k h).long, (row k h).short))

  pub none_is : 14 ≤ k → [] ≡ status_text code
  unfolding status_text
  none_is h = rw (← e) (sym (get_or-eq_default texts [] h))

-- what a Status says, by its two tests
module _ (s : List ℕ) where
  pub status-is : status_of s ≡ cond (has_piece (number 3 100 699) s 0 && stands_at s 3 (32 ∷ [])) (Some (decimal_at 3 s 0)) None
  unfolding status_of status_rule reads has_piece piece_end
  status-is = rw (eq-eqb (length s) (length s) refl) (by (stands_at s 3 (32 ∷ [])))
    where
      by : (b : Bool) → cond ((digits 3 s 0 && among 100 699 (decimal_at 3 s 0)) && (b && true)) (Some (decimal_at 3 s 0)) None
          ≡ cond ((digits 3 s 0 && among 100 699 (decimal_at 3 s 0)) && b) (Some (decimal_at 3 s 0)) None
      by true = refl
      by false = refl

  pub code_fits : has_piece (number 3 100 699) s 0 ≡ true → (100 ≤ decimal_at 3 s 0) × (decimal_at 3 s 0 ≤ 699)
  unfolding has_piece
  code_fits e = among_in 100 699 (decimal_at 3 s 0) (and_parts (digits 3 s 0) (among 100 699 (decimal_at 3 s 0)) e).1

  as_status : (t : Bool) (n : ℕ) → status_rule s ≡ t → cond t (Some (decimal_at 3 s 0)) None ≡ Some n → (100 ≤ n) × (n ≤ 699)
  unfolding status_rule reads
  as_status true n h e =
      let p : decimal_at 3 s 0 ≡ n = cc in
      rw (← p) (code_fits (and_parts (has_piece (number 3 100 699) s 0) (reads (fixed (ascii " ") ∷ free ∷ []) s (piece_end (number 3 100 699) s 0)) h).0)
  as_status false n h e = absurd (let z : ◌≡◌ {A = ℕ} 0 1 = cc in omega arith)

  -- the code of a Status that keeps its rule is in its range
  pub status-range : (n : ℕ) → status_of s ≡ Some n → (100 ≤ n) × (n ≤ 699)
  unfolding status_of
  status-range n e = as_status (status_rule s) n refl e
