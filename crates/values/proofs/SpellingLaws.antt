-- Where a value is spelled: the own bytes of a value end with it, so its spelling is what stands between their first and their last, and a part of the
-- message. Assumes nothing.
use Rattle.values.specs.inner.Asked.{Own}
use Prim.Native.Nat.{ℕ, zero, suc, ◌+◌, ◌-◌, ◌≤◌, ◌<◌}
use Rattle.json_text.proofs.PlaceLaws.{part_none, size-fit}
use Rattle.json_text.specs.Places.{part, is_open, is_mark, Inside, outside, quoted, escaped, turn, depth, left, unmarked, size, behind, bytes, closing, raw}
use Rattle.escapes.specs.Rfc7159.{text}
use Rattle.values.specs.Spans.{spelling_at, spelling_span, text_at, cut}
use Rattle.values.specs.Value.{spelling_of, text_of}
use borrow.Author.Tests.{le-ltb, lt-ltb, ltb-true}
use lib.Dec.{eqb, ltb}
use lib.ListN.{length, take, drop, drop_of_length-le, length-drop}
use lib.Seq.{take-nil, take-take, drop-drop, length-take-le}
use mathlib.Core.Bool.{Bool, true, false, cond}
use mathlib.Core.List.{List, [], ◌∷◌}
use mathlib.Core.Path.{◌≡◌, refl, sym, ap, ◌∙◌}
use native.Mathlib.Decide.{dec_lt}
use native.Mathlib.Omega.{arith}

-- A value's own bytes are the same value once they are cut out.

pub left_cut : (l : List ℕ) (x : Inside) (n : ℕ) → left (take (left l x n) l) x n ≡ left l x n
unfolding left
left_cut [] x n = refl
left_cut (b ∷ l) outside zero = refl
left_cut (b ∷ l) outside (suc n) = ap suc (left_cut l (turn outside b) (depth (suc n) b))
left_cut (b ∷ l) quoted n = ap suc (left_cut l (turn quoted b) n)
left_cut (b ∷ l) escaped n = ap suc (left_cut l quoted n)

unmarked-by : (b : ℕ) (l : List ℕ) (t : Bool) → is_mark b ≡ t → unmarked (take (unmarked l) l) ≡ unmarked l
    → unmarked (take (cond t 0 (suc (unmarked l))) (b ∷ l)) ≡ cond t 0 (suc (unmarked l))
unfolding unmarked
unmarked-by b l true e h = refl
unmarked-by b l false e h = rw e (ap suc h)

unmarked-cut : (l : List ℕ) → unmarked (take (unmarked l) l) ≡ unmarked l
unfolding unmarked
unmarked-cut [] = refl
unmarked-cut (b ∷ l) = unmarked-by b l (is_mark b) refl (unmarked-cut l)

plain_by : (b : ℕ) (l : List ℕ) (t : Bool) → is_mark b ≡ t → eqb b 34 ≡ false → is_open b ≡ false → size (take (cond t 0 (suc (unmarked l))) (b ∷ l)) ≡ cond t 0 (suc (unmarked l))
unfolding size unmarked
plain_by b l true e f g = refl
plain_by b l false e f g = rw (f, g, e) (ap suc (unmarked-cut l))

size-by : (b : ℕ) (l : List ℕ) (t u : Bool) → eqb b 34 ≡ t → is_open b ≡ u
    → size (take (cond t (suc (left l quoted 0)) (cond u (suc (left l outside 1)) (unmarked (b ∷ l)))) (b ∷ l)) ≡ cond t (suc (left l quoted 0))
    (cond u (suc (left l outside 1)) (unmarked (b ∷ l)))
unfolding size unmarked
size-by b l true u e f = rw e (ap suc (left_cut l quoted 0))
size-by b l false true e f = rw (e, f) (ap suc (left_cut l outside 1))
size-by b l false false e f = plain_by b l (is_mark b) refl e f

size-cut : (l : List ℕ) → size (take (size l) l) ≡ size l
unfolding size
size-cut [] = refl
size-cut (b ∷ l) = size-by b l (eqb b 34) (is_open b) refl refl

module _ (s : List ℕ) (v : ℕ) where
  bytes-are : bytes s v ≡ take (size (drop v s)) (drop v s)
  unfolding part behind
  bytes-are = let z : v + size (drop v s) - v ≡ size (drop v s) = omega arith in rw z

  long : length (take (size (drop v s)) (drop v s)) ≡ size (drop v s)
  long = length-take-le (size (drop v s)) (drop v s) (size-fit (drop v s))

  pub bytes-short : length (bytes s v) ≤ length s - v
  bytes-short = rw (bytes-are, long) (omega (arith, size-fit (drop v s), length-drop v s))

  -- the bytes of a value end with it
  pub own-bytes : Own (bytes s v)
  unfolding behind
  own-bytes = rw bytes-are (let a = size-cut (drop v s) in let b = long in omega arith)

-- what `own_spelling` answers
module _ (v : List ℕ) (own : Own v) where
  pub spelling-short : length v < 2 → part v 0 0 ≡ spelling_of v
  unfolding spelling_of raw closing
  spelling-short h = part_none v 0 0 (omega arith) ∙ sym (rw own (part_none v (0 + 1) (length v - 1) (omega arith)))

  pub spelling-long : {e : ℕ} → e ≡ length v - 1 → take (e - 1) (drop 1 v) ≡ spelling_of v
  unfolding spelling_of raw closing part
  spelling-long e = rw (own, e)

-- a part of the front of a list
sub-take : (i m n : ℕ) (l : List ℕ) → i + m ≤ n → take m (drop i (take n l)) ≡ take m (drop i l)
sub-take zero m n l h = take-take m n l (omega arith)
sub-take (suc i) m zero l h = absurd (omega arith)
sub-take (suc i) m (suc n) [] h = refl
sub-take (suc i) m (suc n) (x ∷ l) h = sub-take i m n l (omega arith)

take-le : (n : ℕ) (l : List ℕ) → length (take n l) ≤ n
take-le zero l = omega arith
take-le (suc n) [] = omega arith
take-le (suc n) (x ∷ l) = omega (arith, take-le n l)

pub take_own : (n : ℕ) (l : List ℕ) → take (length (take n l)) l ≡ take n l
take_own zero l = refl
take_own (suc n) [] = refl
take_own (suc n) (x ∷ l) = ap (λ (t : List ℕ). x ∷ t) (take_own n l)

module _ (s : List ℕ) (v : ℕ) where
  spelling-by : Dec (0 < size (drop v s)) → take (size (drop v s) - 1 - 1) (drop 1 (take (size (drop v s)) (drop v s))) ≡ take (size (drop v s) - 1 - 1) (drop (v + 1) s)
  spelling-by (yes h) = sub-take 1 (size (drop v s) - 1 - 1) (size (drop v s)) (drop v s) (omega arith) ∙ ap (take (size (drop v s) - 1 - 1)) (drop-drop 1 v s)
  spelling-by (no h) = let z : size (drop v s) - 1 - 1 ≡ 0 = omega arith in rw z

  -- the spelling of the value at v
  spelling-take : spelling_at s v ≡ take (size (drop v s) - 1 - 1) (drop (v + 1) s)
  unfolding spelling_at
  spelling-take = sym (spelling-long (bytes s v) (own-bytes s v) refl) ∙ rw (bytes-are s v, long s v) (spelling-by (dec_lt 0 (size (drop v s))))

  spelling-inside : 0 < length (spelling_at s v) → v + 2 + length (spelling_at s v) ≤ length s
  spelling-inside h =
      let a = ap length spelling-take in
      let b = take-le (size (drop v s) - 1 - 1) (drop (v + 1) s) in
      let c = size-fit (drop v s) in
      omega (arith, length-drop v s)

  span_by : (t : Bool) → ltb v (length s) ≡ t → ((spelling_span s v).start ≤ length s) × ((spelling_span s v).end ≤ length s)
  unfolding spelling_span
  span_by true e = rw e (omega (arith, ltb-true v (length s) e), end_by (dec_lt 0 (length (spelling_at s v))))
    where
      end_by : Dec (0 < length (spelling_at s v)) → v + 1 + length (spelling_at s v) ≤ length s
      end_by (yes h) = omega (arith, spelling-inside h)
      end_by (no h) = omega (arith, ltb-true v (length s) e)
  span_by false e = rw e (omega arith, omega arith)

  pub span_within : ((spelling_span s v).start ≤ length s) × ((spelling_span s v).end ≤ length s)
  span_within = span_by (ltb v (length s)) refl

  spelling-part : spelling_at s v ≡ part s (v + 1) (v + 1 + length (spelling_at s v))
  unfolding part
  spelling-part =
      let z : v + 1 + length (spelling_at s v) - (v + 1) ≡ length (spelling_at s v) = omega arith in
      spelling-take ∙ sym (rw z (ap (λ (t : List ℕ). take (length t) (drop (v + 1) s)) spelling-take ∙ take_own (size (drop v s) - 1 - 1) (drop (v + 1) s)))

  -- a value is spelled where its span says
  there-cut : v < length s → cut s (spelling_span s v) ≡ spelling_at s v
  unfolding cut spelling_span
  there-cut h = rw (lt-ltb v (length s) h) (sym spelling-part)

  none-cut : length s ≤ v → cut s (spelling_span s v) ≡ spelling_at s v
  unfolding cut spelling_span
  none-cut h = rw (le-ltb v (length s) h)
      (part_none s 0 0 (omega arith) ∙ sym (spelling-take ∙ (let z : length s ≤ v + 1 = omega arith in rw (drop_of_length-le s z) (take-nil (size (drop v s) - 1 - 1)))))

  pub spelled_cut : cut s (spelling_span s v) ≡ spelling_at s v
  spelled_cut = by (dec_lt v (length s))
    where
      by : Dec (v < length s) → cut s (spelling_span s v) ≡ spelling_at s v
      by (yes h) = there-cut h
      by (no h) = none-cut (omega arith)

  -- and what is spelled there is its text
  pub text-cut : text (cut s (spelling_span s v)) ≡ text_at s v
  unfolding spelling_at text_at text_of
  text-cut = ap text spelled_cut
