-- What a CSeq says, one law for each way out of `sequences::sequence_of`: the rule opened once, then test by test.
-- At the end the ranges of what comes out, for callers. Assumes nothing.
use Prim.Native.Nat.{◌+◌, ◌-◌, ◌≤◌, ℕ}
use mathlib.Core.Bool.{Bool, ◌&&◌, and-false, false, not, true, cond}
use mathlib.Core.List.{List, ◌∷◌, []}
use mathlib.Core.Path.{◌∙◌, ◌≡◌, ap, refl, subst, sym}
use native.Mathlib.Nat.{zero-add}
use native.Mathlib.Omega.{arith}
use borrow.Author.Tests.{eq-eqb, lt-ltb, ltb-true, ne_eqb}
use lib.Dec.{eqb, ltb}
use lib.ListN.{drop, get_or, length, length-drop, take}
use lib.Seq.{take_all}
use Rattle.octets.proofs.ClassLaws.{among_in}
use Rattle.octets.proofs.TestLaws.{and_parts}
use Rattle.octets.specs.Class.{among}
use Rattle.octets.specs.Text.{stands_at}
use Rattle.rules.proofs.NameLaws.{place-below}
use Rattle.rules.specs.Names.{methods}
use Rattle.rules.specs.Pieces.{piece_end, has_piece, word_number, reads, run_length, decimal_at}
use Rattle.rules.specs.Sequence.{cseq_method, number_end, cseq_number, sequence_of, sequence_rule}
use Rattle.rules.specs.declared.classes.Class.TheVariants.{Digit}
use Rattle.rules.specs.declared.sequences.Sequence.{Sequence}
use Rattle.std.specs.Prelude.{None, Some}

first-false : (x r : Bool) → ((x && false) && r) ≡ false
first-false true r = refl
first-false false r = refl

tail-false : (a z : Bool) → (a && (z && false)) ≡ false
tail-false a true = and-false a
tail-false a false = and-false a

-- the rest of a text as the code cuts it
rest-is : (s : List ℕ) (k : ℕ) → take (length s - k) (drop k s) ≡ drop k s
rest-is s k = take_all (length s - k) (drop k s) (omega (arith, length-drop k s))

module _ (s : List ℕ) (n : ℕ) (q : n ≡ 0 + run_length Digit (drop 0 s)) where
  rule-is : sequence_rule s ≡ ((not (eqb (get_or s 0 0) 48) && among 1 4294967295 (decimal_at n s 0))
      && (stands_at s n (32 ∷ []) && (ltb 0 (word_number methods (drop (n + 1) s)) && true)))
  unfolding sequence_rule reads has_piece piece_end
  rule-is = rw (q, eq-eqb (length s) (length s) refl, zero-add)

  broken : sequence_rule s ≡ false → None ≡ sequence_of s
  unfolding sequence_of
  broken e = rw e

  pub no_space : stands_at s n (32 ∷ []) ≡ false → None ≡ sequence_of s
  no_space e = broken (rule-is ∙ rw e (and-false (not (eqb (get_or s 0 0) 48) && among 1 4294967295 (decimal_at n s 0))))

  pub leading_zero : get_or s 0 0 ≡ 48 → None ≡ sequence_of s
  leading_zero e = broken (rule-is ∙ rw (eq-eqb (get_or s 0 0) 48 e))

  -- the number that is counted is the text's, or there is none
  counts : (t : Bool) → among 1 4294967295 (decimal_at n s 0) ≡ t → None ≡ cond t (Some (decimal_at n s 0)) None → among 1 4294967295 (decimal_at n s 0) ≡ false
  counts true h e = absurd (let z : ◌≡◌ {A = ℕ} 0 1 = cc in omega arith)
  counts false h e = h

  pub no_number : None ≡ cond (among 1 4294967295 (decimal_at n s 0)) (Some (decimal_at n s 0)) None → None ≡ sequence_of s
  no_number e = broken (rule-is ∙ rw (counts (among 1 4294967295 (decimal_at n s 0)) refl e)
      (first-false (not (eqb (get_or s 0 0) 48)) (stands_at s n (32 ∷ []) && (ltb 0 (word_number methods (drop (n + 1) s)) && true))))

  module _ (v : ℕ) (w : Some v ≡ cond (among 1 4294967295 (decimal_at n s 0)) (Some (decimal_at n s 0)) None) where
    counted : (t : Bool) → among 1 4294967295 (decimal_at n s 0) ≡ t → Some v ≡ cond t (Some (decimal_at n s 0)) None
        → (among 1 4294967295 (decimal_at n s 0) ≡ true) × (v ≡ decimal_at n s 0)
    counted true h e = (h, cc)
    counted false h e = absurd (let z : ◌≡◌ {A = ℕ} 0 1 = cc in omega arith)

    number : (among 1 4294967295 (decimal_at n s 0) ≡ true) × (v ≡ decimal_at n s 0)
    number = counted (among 1 4294967295 (decimal_at n s 0)) refl w

    pub number_in : (1 ≤ v) × (v ≤ 4294967295)
    number_in = let p = among_in 1 4294967295 (decimal_at n s 0) number.0 in rw number.1 p

    module _ (m : ℕ) (p : m ≡ word_number methods (take (length s - (n + 1)) (drop (n + 1) s))) where
      method-is : m ≡ word_number methods (drop (n + 1) s)
      method-is = p ∙ ap (word_number methods) (rest-is s (n + 1))

      pub no-method : m ≡ 0 → None ≡ sequence_of s
      no-method e = broken (rule-is ∙ rw (sym method-is ∙ e) (tail-false (not (eqb (get_or s 0 0) 48) && among 1 4294967295 (decimal_at n s 0)) (stands_at s n (32 ∷ []))))

      pub good-sequence : stands_at s n (32 ∷ []) ≡ true → (get_or s 0 0 ≡ 48 → ⊥) → (m ≡ 0 → ⊥) → Some (record { number = v; method = m }) ≡ sequence_of s
      unfolding sequence_of cseq_number cseq_method number_end piece_end
      good-sequence e f g =
          let u = number.1 in
          let o = method-is in
          let r : sequence_rule s ≡ true = rule-is
          ∙ rw (
            ne_eqb (get_or s 0 0) 48 f,
            number.0,
            e,
            lt-ltb 0 (word_number methods (drop (n + 1) s)) (omega (arith, o, g)),
          ) in
          rw (r, ← q, ← u, ← o)

-- a CSeq's number and method are within their ranges
pub record Ranges (n m : ℕ) : Type 0 where
  pub positive : 1 ≤ n
  pub small : n ≤ 4294967295
  pub coded : 1 ≤ m
  pub known : m ≤ 8

in_ranges : (s : List ℕ) → sequence_rule s ≡ true → Ranges (cseq_number s) (cseq_method s)
unfolding cseq_number cseq_method number_end piece_end
in_ranges s h =
    let n = 0 + run_length Digit (drop 0 s) in
    let r = sym (rule-is s n refl) ∙ h in
    let a = not (eqb (get_or s 0 0) 48) in
    let b = among 1 4294967295 (decimal_at n s 0) in
    let d = stands_at s n (32 ∷ []) in
    let f = ltb 0 (word_number methods (drop (n + 1) s)) in
    let p = and_parts (a && b) (d && (f && true)) r in
    let g = among_in 1 4294967295 (decimal_at n s 0) (and_parts a b p.0).1 in
    let q = ltb-true 0 (word_number methods (drop (n + 1) s)) (and_parts f true (and_parts d (f && true) p.1).1).0 in
    record { positive = g.0; small = g.1; coded = q; known = place-below methods (drop (n + 1) s) }

as_sequence : (s : List ℕ) (t : Bool) (q : Sequence) → sequence_rule s ≡ t → cond t (Some (record { number = cseq_number s; method = cseq_method s })) None ≡ Some q
    → Ranges q.number q.method
as_sequence s true q h e = subst (λ (r : Sequence). Ranges r.number r.method) (cc) (in_ranges s h)
as_sequence s false q h e = absurd (let z : ◌≡◌ {A = ℕ} 0 1 = cc in omega arith)

pub sequence_ranges : (s : List ℕ) (q : Sequence) → sequence_of s ≡ Some q → Ranges q.number q.method
unfolding sequence_of
sequence_ranges s q e = as_sequence s (sequence_rule s) q refl e
