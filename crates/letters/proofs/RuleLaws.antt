-- The rules of the five fields letter by letter, and the reach of each: pieces one after the other, if they are sound. Assumes nothing.
use Prim.Native.Nat.{ℕ, zero, suc, ◌≤◌, ◌<◌}
use Rattle.letters.proofs.CountLaws.{count_reaches}
use Rattle.letters.proofs.FixedLaws.{end_reaches, fixed_reaches, words_reach_lem}
use Rattle.letters.proofs.NumberLaws.{number_reaches}
use Rattle.letters.proofs.Reaches.{Reaches, either_reaches, same_reaches}
use Rattle.letters.proofs.RestLaws.{count_same, end_same, fixed_same, number_same, run-same}
use Rattle.letters.proofs.RunLaws.{Shut, run_reaches}
use Rattle.letters.specs.inner.Reach.{address_reach, call_id_reach, date_reach, day_reach, low, meets, month_reach, reach_of, sequence_reach, top, words_reach}
use Rattle.letters.specs.inner.Rest.{end_rest, fixed_rest, number_rest, rest_of}
use Rattle.octets.proofs.TestLaws.{Either, and_left, and_right, clash, either, picked}
use Rattle.octets.specs.Ascii.{ascii}
use Rattle.octets.specs.Class.{all, among, is_alnum, is_digit, is_letter, is_lower, is_upper}
use Rattle.rules.specs.Address.{address_rule, callee, callee_rule, caller, caller_rule}
use Rattle.rules.specs.Classes.{holds}
use Rattle.rules.specs.Date.{date_rule, days, days_in, leap, time}
use Rattle.rules.specs.Names.{methods}
use Rattle.rules.specs.Pieces.{Piece, count, decimal_at, fixed, free, has_piece, number, piece_end, reads, run, word, word_number}
use Rattle.rules.specs.Sequence.{sequence, sequence_rule}
use Rattle.rules.specs.Texts.{call_id, call_id_rule}
use Rattle.rules.specs.declared.classes.Class.TheVariants.{Digit}
use Rattle.rules.specs.declared.classes.Class.{Class}
use borrow.Author.Tests.{eq-eqb, eqb-true, le-leb, leb-true, ltb-false, ltb-true, not-true}
use lib.Dec.{eqb, leb, ltb}
use lib.ListN.{get_or-eq_default, drop, get_or, length}
use mathlib.Core.Bool.{Bool, true, false, not, ◌&&◌, and-true}
use mathlib.Core.List.{List, [], ◌∷◌}
use mathlib.Core.Logic.{inl, inr}
use mathlib.Core.Path.{◌≡◌, refl, ap, ◌∙◌}
use native.Mathlib.Omega.{arith}

-- Pieces are sound where each can be read: behind a run or a count stands the end, or a letter outside its class; a is of both classes of a run.

shut_off : Class → List Piece → Bool
shut_off c [] = true
shut_off c (fixed [] ∷ ps) = false
shut_off c (fixed (b ∷ w) ∷ ps) = not (holds c b)
shut_off c (run lo hi d e ∷ ps) = false
shut_off c (number n lo hi ∷ ps) = false
shut_off c (count hi ∷ ps) = false
shut_off c (word ws ∷ ps) = false
shut_off c (free ∷ ps) = false

sound : List Piece → Bool
sound [] = true
sound (fixed w ∷ ps) = sound ps
sound (run lo hi c e ∷ ps) = (leb 1 lo && leb lo hi) && ((holds c 97 && holds e 97) && (shut_off c ps && sound ps))
sound (number n lo hi ∷ ps) = leb lo hi && (meets lo hi n 0 && sound ps)
sound (count hi ∷ ps) = leb 1 hi && (shut_off Digit ps && sound ps)
sound (word [] ∷ ps) = false
sound (word (w ∷ ws) ∷ []) = true
sound (word (w ∷ ws) ∷ p ∷ ps) = false
sound (free ∷ ps) = false

shut : (c : Class) (ps : List Piece) → shut_off c ps ≡ true → Shut c (rest_of ps)
unfolding shut_off rest_of end_rest fixed_rest
shut c [] e x u h = refl
shut c (fixed [] ∷ ps) e x u h = clash e refl
shut c (fixed (b ∷ w) ∷ ps) e x u h = go (either (eqb x b))
  where
    go : Either (eqb x b) → (eqb x b && fixed_rest w (rest_of ps) u) ≡ false
    go (inl q) = clash h (ap (holds c) (eqb-true x b q) ∙ not-true _ e)
    go (inr q) = rw q
shut c (run lo hi d f ∷ ps) e x u h = clash e refl
shut c (number n lo hi ∷ ps) e x u h = clash e refl
shut c (count hi ∷ ps) e x u h = clash e refl
shut c (word ws ∷ ps) e x u h = clash e refl
shut c (free ∷ ps) e x u h = clash e refl

word_same : (ws : List (List ℕ)) (t : List ℕ) (at : ℕ) → (ltb 0 (word_number ws (drop at t)) && eqb (length t) (length t)) ≡ ltb 0 (word_number ws (drop at t))
word_same ws t at = rw (eq-eqb (length t) (length t) refl) (and-true (ltb 0 (word_number ws (drop at t))))

-- what is asked from a place on is what is asked of the rest
same : (ps : List Piece) → sound ps ≡ true → (s : List ℕ) (at : ℕ) → at ≤ length s → reads ps s at ≡ rest_of ps (drop at s)
unfolding sound reads has_piece piece_end rest_of
same [] e s at h = end_same s at h
same (fixed w ∷ ps) e s at h = fixed_same (rest_of ps) s at w _ h (same ps e s _)
same (run lo hi c d ∷ ps) e s at h =
    run-same lo hi c d (rest_of ps) s at _ _ (leb-true 1 lo (and_left (leb 1 lo) _ (and_left (leb 1 lo && leb lo hi) _ e)))
    (same ps (and_right (shut_off c ps) _ (and_right (holds c 97 && holds d 97) _ (and_right (leb 1 lo && leb lo hi) _ e))) s _) h refl
same (number n lo hi ∷ ps) e s at h = number_same s at lo hi (λ v. rest_of ps) _ n (same ps (and_right (meets lo hi n 0) _ (and_right (leb lo hi) _ e)) s _) h
same (count hi ∷ ps) e s at h = count_same hi (rest_of ps) s at _ (same ps (and_right (shut_off Digit ps) _ (and_right (leb 1 hi) _ e)) s _) h
same (word [] ∷ ps) e s at h = clash e refl
same (word (w ∷ ws) ∷ []) e s at h = word_same (w ∷ ws) s at
same (word (w ∷ ws) ∷ p ∷ ps) e s at h = clash e refl
same (free ∷ ps) e s at h = clash e refl

digit_class : (x : ℕ) → is_digit x ≡ true → holds Digit x ≡ true
unfolding holds
digit_class x e = e

rest_reaches : (ps : List Piece) → sound ps ≡ true → (t : List ℕ) → Reaches (rest_of ps) t (reach_of ps t)
unfolding sound rest_of reach_of
rest_reaches [] e t = end_reaches t
rest_reaches (fixed w ∷ ps) e t = fixed_reaches (rest_reaches ps e) w t
rest_reaches (run lo hi c d ∷ ps) e t =
    let p = and_left (leb 1 lo && leb lo hi) _ e in
    let q = and_right (leb 1 lo && leb lo hi) _ e in
    let r = and_right (holds c 97 && holds d 97) _ q in
    let f = and_left (holds c 97 && holds d 97) _ q in
    run_reaches lo hi c d (rest_of ps) (leb-true 1 lo (and_left (leb 1 lo) _ p)) (leb-true lo hi (and_right (leb 1 lo) _ p)) (shut c ps (and_left (shut_off c ps) _ r))
    (rest_reaches ps (and_right (shut_off c ps) _ r)) 97 (and_left (holds c 97) _ f) (and_right (holds c 97) _ f) t 0 true (omega arith) (λ h. refl)
rest_reaches (number n lo hi ∷ ps) e t =
    let q = and_right (leb lo hi) _ e in
    number_reaches (leb-true lo hi (and_left (leb lo hi) _ e)) (λ v a b. rest_reaches ps (and_right (meets lo hi n 0) _ q)) n 0 t (and_left (meets lo hi n 0) _ q)
rest_reaches (count hi ∷ ps) e t =
    let q = and_right (leb 1 hi) _ e in
    count_reaches hi (rest_of ps) (leb-true 1 hi (and_left (leb 1 hi) _ e)) (λ x u h. shut Digit ps (and_left (shut_off Digit ps) _ q) x u (digit_class x h))
    (rest_reaches ps (and_right (shut_off Digit ps) _ q)) t 0 (omega arith)
rest_reaches (word [] ∷ ps) e t = clash e refl
rest_reaches (word (w ∷ ws) ∷ []) e t = words_reach_lem w ws 0 t
rest_reaches (word (w ∷ ws) ∷ p ∷ ps) e t = clash e refl
rest_reaches (free ∷ ps) e t = clash e refl

pieces_reach : (ps : List Piece) → sound ps ≡ true → (t : List ℕ) → Reaches (λ s. reads ps s 0) t (reach_of ps t)
pieces_reach ps e t = same_reaches (λ u. same ps e u 0 (omega arith)) (rest_reaches ps e t)

-- CSeq, To and From, Call-ID
pub sequence_reaches : (t : List ℕ) → Reaches sequence_rule t (sequence_reach t)
unfolding sequence_rule sequence_reach sound shut_off holds is_digit among
sequence_reaches = pieces_reach sequence refl

pub address_reaches : (t : List ℕ) → Reaches address_rule t (address_reach t)
unfolding address_rule caller_rule callee_rule address_reach sound shut_off holds is_alnum is_letter is_lower is_upper is_digit among
address_reaches t = either_reaches caller_rule callee_rule (pieces_reach caller refl t) (pieces_reach callee refl t)

pub call_id_reaches : (t : List ℕ) → Reaches call_id_rule t (call_id_reach t)
unfolding call_id_rule call_id_reach sound shut_off holds is_alnum is_letter is_lower is_upper is_digit among
call_id_reaches = pieces_reach (call_id ∷ []) refl

-- Date: every month has days, and few
all-at : (f : ℕ → Bool) (l : List ℕ) (i : ℕ) → all f l ≡ true → i < length l → f (get_or l i 0) ≡ true
unfolding all
all-at f [] i e h = absurd (omega arith)
all-at f (d ∷ l) zero e h = and_left (f d) (all f l) e
all-at f (d ∷ l) (suc i) e h = all-at f l i (and_right (f d) (all f l) e) (omega arith)

some-days : (y m : ℕ) → 1 ≤ m → m ≤ 12 → 1 ≤ days_in y m
unfolding days_in all
some-days y zero h k = absurd (omega arith)
some-days y (suc m) h k =
    picked (λ (d : ℕ). 1 ≤ d) (eqb (suc m) 2) (picked (λ (d : ℕ). 1 ≤ d) (leap y) (omega arith) (omega arith))
    (ltb-true 0 _ (all-at (ltb 0) (drop 1 days) m refl (omega arith)))

pub few-days : (y m : ℕ) → days_in y m ≤ 31
unfolding days_in all
few-days y m = picked (λ (d : ℕ). d ≤ 31) (eqb m 2) (picked (λ (d : ℕ). d ≤ 31) (leap y) (omega arith) (omega arith)) (go (either (ltb m 13)))
  where
    go : Either (ltb m 13) → get_or days m 0 ≤ 31
    go (inl h) = leb-true (get_or days m 0) 31 (all-at (λ d. leb d 31) days m refl (ltb-true m 13 h))
    go (inr h) = let z : get_or days m 0 ≡ 0 = get_or-eq_default days 0 (ltb-false m 13 h) in omega arith

-- the day of a month in a year, and what stands behind it; the month; the year
day_pieces : ℕ → ℕ → List Piece
day_pieces y m = fixed (ascii "-") ∷ number 2 1 (days_in y m) ∷ time

day_rest : ℕ → ℕ → List ℕ → Bool
day_rest y m = rest_of (day_pieces y m)

month_rest : ℕ → List ℕ → Bool
month_rest y = fixed_rest (ascii "-") (number_rest 1 12 (day_rest y) 2 0)

date-same : (s : List ℕ) → date_rule s ≡ number_rest 1 9999 month_rest 4 0 s
unfolding date_rule reads has_piece piece_end month_rest day_rest day_pieces rest_of sound meets low top
date-same s =
    number_same s 0 1 9999 month_rest _ 4 (λ i.
    fixed_same _ s 4 (ascii "-") _ i (λ k.
    number_same s 5 1 12 (day_rest (decimal_at 4 s 0)) _ 2 (λ i.
    fixed_same _ s 7 (ascii "-") _ i (λ k.
    number_same s 8 1 (days_in (decimal_at 4 s 0) (decimal_at 2 s 5)) (λ v. rest_of time) _ 2 (same time refl s 10) k)) k)) (omega arith)

day-sound : (y m : ℕ) → 1 ≤ m → m ≤ 12 → sound (day_pieces y m) ≡ true
unfolding day_pieces sound meets low top
day-sound y m h k = rw (le-leb 1 (days_in y m) (some-days y m h k), le-leb 0 (days_in y m) (omega arith))

day_reaches : (y m : ℕ) → 1 ≤ m → m ≤ 12 → (t : List ℕ) → Reaches (day_rest y m) t (day_reach y m t)
unfolding day_rest day_reach day_pieces
day_reaches y m h k = rest_reaches (day_pieces y m) (day-sound y m h k)

month_reaches : (y : ℕ) (t : List ℕ) → Reaches (month_rest y) t (month_reach y t)
unfolding month_rest month_reach meets low top
month_reaches y = fixed_reaches (λ t. number_reaches (omega arith) (day_reaches y) 2 0 t refl) (ascii "-")

pub date_reaches : (t : List ℕ) → Reaches date_rule t (date_reach t)
unfolding date_reach meets low top
date_reaches t = same_reaches date-same (number_reaches (omega arith) (λ y a b. month_reaches y) 4 0 t refl)

-- what `method_reach` counts is inside
pub methods-inside : (t : List ℕ) → words_reach methods t ≤ length t
methods-inside t = (words_reach_lem _ _ 0 t).inside
