-- Where a value breaks its rule: the fields 1 to 5 tell the first bad letter of a string (02 §12). Assumes nothing.
use Prim.Native.Nat.{ℕ, zero, suc, ◌+◌, ◌-◌, ◌≤◌, ◌<◌}
use Rattle.escapes.proofs.PlaceLaws.{place_inside}
use Rattle.escapes.specs.Placing.{place_of}
use Rattle.escapes.specs.Rfc7159.{text}
use Rattle.fields.specs.Field.{call_of, fault_at, keeps, letter_at, letter_reach, letter_rule, particulars_faults}
use Rattle.fields.specs.declared.judging.Setting.{Setting}
use Rattle.json_text.specs.Places.{closing, part, raw}
use Rattle.letters.proofs.Theorems.{address_cut, bad_address, bad-call_id, bad-date, bad-sequence, call_id_cut, date-cut, sequence-cut}
use Rattle.letters.specs.BadLetter.{BadLetter}
use Rattle.octets.proofs.ClassLaws.{among-high, in_among}
use Rattle.octets.proofs.TestLaws.{picked}
use Rattle.octets.specs.Class.{among}
use Rattle.particulars.proofs.BoundLaws.{caller-inside, cond-inside, live-inside, locations-inside, none, place-inside}
use Rattle.particulars.specs.Fields.{caller_faults, live_faults, locations_faults}
use Rattle.particulars.specs.Lowest.{lowest, lowest_place}
use Rattle.rules.specs.Numbers.{content_location}
use Rattle.rules.proofs.PlainLaws.{Plain, address_plain, call_id_plain, date-plain, sequence-plain}
use Rattle.values.proofs.SpelledLaws.{ruled-is, plain_by}
use Rattle.values.proofs.ValueLaws.{text-is}
use Rattle.values.specs.Value.{freely, is_string, ruled, spelling_of, text_of}
use borrow.Author.Tests.{lt-ltb, ne_eqb}
use lib.Dec.{eqb, ltb}
use lib.ListN.{length, length-take, take}
use mathlib.Core.Bool.{Bool, true, false, ◌&&◌, cond}
use mathlib.Core.List.{List, [], ◌∷◌}
use mathlib.Core.Path.{◌≡◌, refl, sym, ◌∙◌}
use native.Mathlib.Omega.{arith}

-- the rules that `letter_rule` lists are those of the fields
pub lettered : (k : Setting) (n : ℕ) (v : List ℕ) → 1 ≤ n → n ≤ 5 → keeps k n v ≡ ruled (letter_rule n) v
unfolding keeps letter_rule
lettered k zero v low high = absurd (omega arith)
lettered k (suc zero) v low high = refl
lettered k (suc (suc zero)) v low high = refl
lettered k (suc (suc (suc zero))) v low high = refl
lettered k (suc (suc (suc (suc zero)))) v low high = refl
lettered k (suc (suc (suc (suc (suc zero))))) v low high = refl
lettered k (suc (suc (suc (suc (suc (suc n)))))) v low high = absurd (omega arith)

letter-plain : (n : ℕ) → Plain (letter_rule n)
unfolding letter_rule
letter-plain n = plain_by (eqb n 1) sequence-plain (plain_by (ltb n 4) address_plain (plain_by (eqb n 4) date-plain call_id_plain))

-- what the buffer holds reaches as far as the text
pub reach_cut : (n : ℕ) (t : List ℕ) → letter_reach n (take 256 t) ≡ letter_reach n t
unfolding letter_reach
reach_cut n t = rw (sequence-cut t, address_cut t, date-cut t, call_id_cut t)

-- By field and value.

module _ (k : Setting) (n : ℕ) (v : List ℕ) where
  pub fault_letter : 1 ≤ n → n ≤ 5 → fault_at k n v ≡ letter_at n v
  unfolding fault_at
  fault_letter low high = rw (in_among 1 5 n low high)

  pub fault_first : 5 < n → particulars_faults k n v ≡ [] → fault_at k n v ≡ 0
  unfolding fault_at lowest_place lowest
  fault_first h e = rw (among-high 1 5 n (omega arith) h, e)

  pub fault_particular : 5 < n → fault_at k n v ≡ lowest_place (particulars_faults k n v)
  unfolding fault_at
  fault_particular h = rw (among-high 1 5 n (omega arith) h)

-- the fields before Body hold no particulars
pub fault_early : (k : Setting) (n : ℕ) (v : List ℕ) → 5 < n → n < 10 → fault_at k n v ≡ 0
unfolding particulars_faults
fault_early k n v low high =
    fault_first k n v low (rw (ne_eqb n 21 (λ e. omega arith), ne_eqb n 23 (λ e. omega arith), ne_eqb n 10 (λ e. omega arith)))

-- To and From are under one rule
pub one-letter : (n : ℕ) (v : List ℕ) → 2 ≤ n → n ≤ 3 → letter_at n v ≡ letter_at 2 v
unfolding letter_at letter_reach
one-letter n v low high = rw (ne_eqb n 1 (λ e. omega arith), lt-ltb n 4 (omega arith))

-- by what is known of the value: how it is spelled, and whether it is a string
module _ (n : ℕ) (v w : List ℕ) {u : Bool} (is : w ≡ spelling_of v) (tested : u ≡ is_string v) where
  pub no-letter : u ≡ false → 0 ≡ letter_at n v
  unfolding letter_at
  no-letter e = rw (sym tested ∙ e)

  pub its_letter : {p : ℕ} → u ≡ true → p ≡ 1 + place_of w (letter_reach n (text w)) → p ≡ letter_at n v
  unfolding letter_at
  its_letter e f = f ∙ rw (sym tested ∙ e, text-is v is, is)

-- It is inside the value.

spelling-inside : (x : ℕ) (v : List ℕ) → length (spelling_of (x ∷ v)) ≤ length v
unfolding spelling_of raw part
spelling-inside x v = omega (arith, length-take (closing (x ∷ v) 0 - 1) v)

letter-inside : (n : ℕ) (v : List ℕ) → letter_at n v ≤ length v
unfolding letter_at is_string
letter-inside n [] = omega arith
letter-inside n (x ∷ v) = go (eqb x 34)
  where
    go : (b : Bool) → cond b (1 + place_of (spelling_of (x ∷ v)) (letter_reach n (text_of (x ∷ v)))) 0 ≤ suc (length v)
    go true = omega (arith, place_inside (spelling_of (x ∷ v)) (letter_reach n (text_of (x ∷ v))), spelling-inside x v)
    go false = omega arith

particular-inside : (k : Setting) (n : ℕ) (v : List ℕ) → lowest_place (particulars_faults k n v) ≤ length v
unfolding particulars_faults
particular-inside k n v =
    place-inside _ (cond-inside (eqb n 21) (locations_faults v) _ (locations-inside v)
    (cond-inside (eqb n 23) (caller_faults (call_of k) v) _ (caller-inside v (call_of k))
    (cond-inside (eqb n 10 && eqb k.content content_location) (live_faults v) [] (live-inside v) none)))

pub fault_inside : (k : Setting) (n : ℕ) (v : List ℕ) → fault_at k n v ≤ length v
unfolding fault_at
fault_inside k n v = picked (λ (p : ℕ). p ≤ length v) (among 1 5 n) (letter-inside n v) (particular-inside k n v)

-- The first bad letter.

bad-by : (b : Bool) {R S : List ℕ → Bool} {f g : List ℕ → ℕ} → ((t : List ℕ) → R t ≡ false → BadLetter R t (f t)) → ((t : List ℕ) → S t ≡ false → BadLetter S t (g t))
    → (t : List ℕ) → cond b (R t) (S t) ≡ false → BadLetter (λ u. cond b (R u) (S u)) t (cond b (f t) (g t))
bad-by true p q t e = p t e
bad-by false p q t e = q t e

bad_reach : (n : ℕ) (t : List ℕ) → letter_rule n t ≡ false → BadLetter (letter_rule n) t (letter_reach n t)
unfolding letter_rule letter_reach
bad_reach n = bad-by (eqb n 1) bad-sequence (bad-by (ltb n 4) bad_address (bad-by (eqb n 4) bad-date bad-call_id))

-- THEOREM: a string that breaks the rule of one of the fields 1 to 5 breaks it at its first bad letter: the letters before it begin an allowed text, and with
-- it they begin none; or all of them do, and the place is that of the closing quote
pub bad-letter : (k : Setting) (n : ℕ) (v : List ℕ) → 1 ≤ n → n ≤ 5 → is_string v ≡ true → keeps k n v ≡ false
    → (j : ℕ) × (BadLetter (letter_rule n) (text_of v) j × (fault_at k n v ≡ 1 + place_of (spelling_of v) j))
unfolding letter_at freely
bad-letter k n v low high is e =
    let f : ruled (letter_rule n) v ≡ freely (letter_rule n) v = ruled-is (letter-plain n) v in
    let g : letter_rule n (text_of v) ≡ false = rw is at (sym f ∙ sym (lettered k n v low high) ∙ e) in
    (letter_reach n (text_of v), (bad_reach n (text_of v) g, fault_letter k n v low high ∙ rw is))
