-- The walk over the members of an object, one member at a time: what is gathered so far, and that the members still to come decide the rest. Assumes nothing.
use Prim.Native.Nat.{ℕ, zero, suc, ◌+◌, ◌<◌}
use Rattle.json_text.specs.Places.{behind, members, members_from, raw, value_of}
use Rattle.json_text.specs.inner.Landing.{Row}
use Rattle.particulars.proofs.LowestLaws.{lower-assoc, lower-none, lowest-append}
use Rattle.particulars.specs.Lowest.{lower, lowest}
use Rattle.particulars.specs.Members.{first_under, is_among, repeats, values_of}
use Rattle.particulars.specs.Types.{names_of}
use Rattle.particulars.specs.declared.types.Kind.{Kind}
use Rattle.particulars.specs.inner.Gathering.{Ended, Gathered, is_noted}
use Rattle.std.proofs.lemmas.List.{ext_get_or, get_or-map}
use Rattle.std.specs.Prelude.{None, Option, Some}
use Rattle.values.specs.Value.{number_at, word_spelled}
use borrow.Author.Tests.{eq-eqb, lt-ltb, ltb-false, ne_eqb}
use lib.Dec.{eqb, ltb}
use lib.ListN.{length, length-set, get_or, set, replicate}
use mathlib.Core.Bool.{Bool, true, false, ◌&&◌, ◌||◌, cond}
use mathlib.Core.List.{List, [], ◌∷◌, map}
use mathlib.Core.Path.{◌≡◌, ap, refl, subst, sym, ◌∙◌}
use native.Mathlib.Decide.{ℕ_discrete}
use native.Mathlib.Omega.{arith}

abbrev pub zeros : ℕ → List ℕ
zeros k = replicate k 0

-- Where values end.

noughts : (k n : ℕ) → get_or (zeros k) n 0 ≡ 0
noughts zero n = refl
noughts (suc k) zero = refl
noughts (suc k) (suc n) = noughts k n

pub ended-none : (s : List ℕ) → Ended s (zeros 9) (zeros 9)
ended-none s = record { ends = λ n h. absurd (omega (arith, noughts 9 n)) }

set-here : (l : List ℕ) (k v : ℕ) → 0 < get_or (set l k v) k 0 → get_or (set l k v) k 0 ≡ v
set-here [] k v h = absurd (omega arith)
set-here (x ∷ l) zero v h = refl
set-here (x ∷ l) (suc k) v h = set-here l k v h

set-in : (l : List ℕ) (k v : ℕ) → k < length l → get_or (set l k v) k 0 ≡ v
set-in [] k v h = absurd (omega arith)
set-in (x ∷ l) zero v h = refl
set-in (x ∷ l) (suc k) v h = set-in l k v (omega arith)

set-there : (l : List ℕ) (k n v : ℕ) → (n ≡ k → ⊥) → get_or (set l k v) n 0 ≡ get_or l n 0
set-there [] k n v ne = refl
set-there (x ∷ l) zero zero v ne = absurd (ne refl)
set-there (x ∷ l) zero (suc n) v ne = refl
set-there (x ∷ l) (suc k) zero v ne = refl
set-there (x ∷ l) (suc k) (suc n) v ne = set-there l k n v (λ e. ne (ap suc e))

same-there : (t e : List ℕ) (k v w : ℕ) → length t ≡ length e → 0 < get_or (set e k w) k 0 → get_or (set t k v) k 0 ≡ v
same-there [] [] k v w l h = absurd (omega arith)
same-there [] (y ∷ e) k v w l h = absurd (omega arith)
same-there (x ∷ t) [] k v w l h = absurd (omega arith)
same-there (x ∷ t) (y ∷ e) zero v w l h = refl
same-there (x ∷ t) (y ∷ e) (suc k) v w l h = same-there t e k v w (omega arith) h

pub ended-more : (s t e : List ℕ) (k v w : ℕ) → length t ≡ length e → w ≡ behind s v → Ended s t e → Ended s (set t k v) (set e k w)
ended-more s t e k v w l is f = record { ends = λ n h. by n (ℕ_discrete n k) h }
  where
    by : (n : ℕ) → Dec (n ≡ k) → 0 < get_or (set e k w) n 0 → get_or (set e k w) n 0 ≡ behind s (get_or (set t k v) n 0)
    by n (yes q) h =
        let g : 0 < get_or (set e k w) k 0 = rw q at h in
        rw q (set-here e k w g ∙ is ∙ ap (behind s) (sym (same-there t e k v w l g)))
    by n (no q) h =
        let g = set-there e k n w q in
        g ∙ f.ends n (omega arith) ∙ ap (behind s) (sym (set-there t k n v q))

-- What is gathered, with the members qs still to come, behind members with names of the numbers `met`.

pub record Sofar (ns : List (List ℕ)) (s : List ℕ) (o : ℕ) (again : Option ℕ) (at end qs : List ℕ) : Type 0 where
  pub met : List ℕ
  pub twice : lowest (repeats ns s [] (members s o)) ≡ lower again (lowest (repeats ns s met qs))
  pub first : (k : ℕ) → k < 9 → first_under ns s k (members s o) ≡ cond (is_noted at k) (get_or at k 0) (first_under ns s k qs)
  pub noted : (k : ℕ) → k < 9 → is_among met k ≡ is_noted at k
  pub ended : Ended s at end
  pub nine : length at ≡ 9
  pub alike : length at ≡ length end

none-noted : (k n : ℕ) → is_noted (zeros k) n ≡ false
unfolding is_noted
none-noted k n = rw (noughts k n)

pub started : (ns : List (List ℕ)) (s : List ℕ) (o : ℕ) → Sofar ns s o None (zeros 9) (zeros 9) (members_from (length s) s (o + 1))
unfolding members lower is_among
started ns s o = record {
  met = [];
  twice = refl;
  first = λ k h. rw (none-noted 9 k);
  noted = λ k h. sym (none-noted 9 k);
  ended = ended-none s;
  nine = refl;
  alike = refl;
}

-- nought to eight
abbrev numbers : List ℕ
numbers = 0 ∷ 1 ∷ 2 ∷ 3 ∷ 4 ∷ 5 ∷ 6 ∷ 7 ∷ 8 ∷ []

number-there : (k : ℕ) → k < 9 → get_or numbers k 0 ≡ k
number-there zero h = refl
number-there (suc zero) h = refl
number-there (suc (suc zero)) h = refl
number-there (suc (suc (suc zero))) h = refl
number-there (suc (suc (suc (suc zero)))) h = refl
number-there (suc (suc (suc (suc (suc zero))))) h = refl
number-there (suc (suc (suc (suc (suc (suc zero)))))) h = refl
number-there (suc (suc (suc (suc (suc (suc (suc zero))))))) h = refl
number-there (suc (suc (suc (suc (suc (suc (suc (suc zero)))))))) h = refl
number-there (suc (suc (suc (suc (suc (suc (suc (suc (suc k))))))))) h = absurd (omega arith)

as-noted : (at : List ℕ) (k : ℕ) → cond (is_noted at k) (get_or at k 0) 0 ≡ get_or at k 0
unfolding is_noted
as-noted at k = by (ltb 0 (get_or at k 0)) refl
  where
    by : (b : Bool) → ltb 0 (get_or at k 0) ≡ b → cond b (get_or at k 0) 0 ≡ get_or at k 0
    by true e = refl
    by false e = let z = ltb-false 0 (get_or at k 0) e in omega arith

module _ (t : Kind) (s : List ℕ) (o : ℕ) {again : Option ℕ} {at end qs : List ℕ} (f : Sofar (names_of t) s o again at end qs) where
  -- no member is left
  pub over : qs ≡ [] → Gathered t s o again at end
  unfolding repeats first_under lowest values_of
  over e = record {
    lowest-repeat = sym (f.twice ∙ ap (λ (l : List ℕ). lower again (lowest (repeats (names_of t) s f.met l))) e ∙ lower-none again);
    places = ext_get_or 0 at _ f.nine each;
    ended = f.ended;
  }
    where
      each : (k : ℕ) → k < length at → get_or at k 0 ≡ get_or (map (λ k. first_under (names_of t) s k (members s o)) numbers) k 0
      each k h =
          let small : k < 9 = omega (arith, f.nine) in
          sym (get_or-map (λ k. first_under (names_of t) s k (members s o)) numbers k 0 0 small
          ∙ ap (λ (n : ℕ). first_under (names_of t) s n (members s o)) (number-there k small)
          ∙ f.first k small ∙ ap (λ (l : List ℕ). cond (is_noted at k) (get_or at k 0) (first_under (names_of t) s k l)) e ∙ as-noted at k)

pub number-is : (ns : List (List ℕ)) (s : List ℕ) (q : ℕ) {x : List ℕ} {k : ℕ} → x ≡ raw s q → k ≡ word_spelled ns x → k ≡ number_at ns s q
unfolding number_at
number-is ns s q e f = f ∙ ap (word_spelled ns) e

repeat-is : (b : Bool) (q : ℕ) → lowest (cond b (q ∷ []) []) ≡ cond b (Some q) None
unfolding lowest lower
repeat-is true q = refl
repeat-is false q = refl

-- the member whose name opens at q, noted: its name has the number k, its value begins at v
module _ (ns : List (List ℕ)) (s : List ℕ) (o : ℕ) {again : Option ℕ} {at end qs : List ℕ} (f : Sofar ns s o again at end qs) (q k : ℕ) (is-k : k ≡ number_at ns s q)
    (few : k < 9) {name v w t : ℕ} (row : Row s q name v w t) (late : 0 < v) {again' : Option ℕ} {at' end' : List ℕ}
    (is-again : again' ≡ lower again (cond (ltb 0 k && is_noted at k) (Some q) None)) (is-at : at' ≡ cond (is_noted at k) at (set at k v))
    (is-end : end' ≡ cond (is_noted at k) end (set end k w)) where
  ended-next : Ended s at' end'
  ended-next = by (is_noted at k) is-at is-end
    where
      by : (b : Bool) → at' ≡ cond b at (set at k v) → end' ≡ cond b end (set end k w) → Ended s at' end'
      by true e g = rw (e, g) f.ended
      by false e g = rw (e, g) (ended-more s at end k v w f.alike (row.ends.is ∙ ap (behind s) (sym row.begins.is)) f.ended)

  alike-next : length at' ≡ length end'
  alike-next = by (is_noted at k) is-at is-end
    where
      by : (b : Bool) → at' ≡ cond b at (set at k v) → end' ≡ cond b end (set end k w) → length at' ≡ length end'
      by true e g = rw (e, g) f.alike
      by false e g = rw (e, g) (length-set at k v ∙ f.alike ∙ sym (length-set end k w))

  nine-next : length at' ≡ 9
  nine-next = by (is_noted at k) is-at
    where
      by : (b : Bool) → at' ≡ cond b at (set at k v) → length at' ≡ 9
      by true e = rw e f.nine
      by false e = rw e (length-set at k v ∙ f.nine)

  -- under its own number, and under another
  here : (is_noted at' k ≡ true) × (get_or at' k 0 ≡ cond (is_noted at k) (get_or at k 0) v)
  unfolding is_noted
  here = by (ltb 0 (get_or at k 0)) refl (rw is-at)
    where
      there : get_or (set at k v) k 0 ≡ v
      there = set-in at k v (omega (arith, f.nine))

      by : (b : Bool) → ltb 0 (get_or at k 0) ≡ b → at' ≡ cond b at (set at k v) → (ltb 0 (get_or at' k 0) ≡ true) × (get_or at' k 0 ≡ cond b (get_or at k 0) v)
      by true e g = rw g (e, refl)
      by false e g = rw (g, there) (lt-ltb 0 v late, refl)

  elsewhere : (j : ℕ) → (j ≡ k → ⊥) → get_or at' j 0 ≡ get_or at j 0
  elsewhere j ne = by (is_noted at k) is-at
    where
      by : (b : Bool) → at' ≡ cond b at (set at k v) → get_or at' j 0 ≡ get_or at j 0
      by true e = rw e
      by false e = rw e (set-there at k j v ne)

  noted-next : (j : ℕ) → j < 9 → is_among (k ∷ f.met) j ≡ is_noted at' j
  unfolding is_among is_noted
  noted-next j h = by (ℕ_discrete j k)
    where
      by : Dec (j ≡ k) → (eqb k j || is_among f.met j) ≡ is_noted at' j
      by (yes e) = rw (e, eq-eqb k k refl) (sym here.0)
      by (no ne) = rw (ne_eqb k j (λ e. ne (sym e)), f.noted j h) (same-noted j ne)
        where
          same-noted : (j : ℕ) → (j ≡ k → ⊥) → is_noted at j ≡ is_noted at' j
          same-noted j ne = ap (λ (n : ℕ). ltb 0 n) (sym (elsewhere j ne))

  first-next : (rest : List ℕ) → qs ≡ q ∷ rest → (j : ℕ) → j < 9
      → first_under ns s j (members s o) ≡ cond (is_noted at' j) (get_or at' j 0) (first_under ns s j rest)
  unfolding first_under is_noted
  first-next rest e j h = f.first j h ∙ ap (λ (l : List ℕ). cond (is_noted at j) (get_or at j 0) (first_under ns s j l)) e ∙ by (ℕ_discrete k j)
    where
      was : (b : Bool) (x : ℕ) → cond b x (cond true v (first_under ns s k rest)) ≡ cond b x v
      was true x = refl
      was false x = refl

      by : Dec (k ≡ j) → cond (is_noted at j) (get_or at j 0) (cond (eqb (number_at ns s q) j) (value_of s q) (first_under ns s j rest))
          ≡ cond (is_noted at' j) (get_or at' j 0) (first_under ns s j rest)
      by (yes z) =
          subst (λ (i : ℕ). cond (is_noted at i) (get_or at i 0) (cond (eqb (number_at ns s q) i) (value_of s q) (first_under ns s i rest))
          ≡ cond (is_noted at' i) (get_or at' i 0) (first_under ns s i rest)) z
          (rw (here.0, here.1, ← is-k, eq-eqb k k refl, ← row.begins.is) (was (is_noted at k) (get_or at k 0)))
      by (no ne) = rw (← is-k, ne_eqb k j ne) (ap (λ (n : ℕ). cond (ltb 0 n) n (first_under ns s j rest)) (sym (elsewhere j (λ z. ne (sym z)))))

  pub goes-on : (rest : List ℕ) {rest' : List ℕ} → qs ≡ q ∷ rest → rest ≡ rest' → Sofar ns s o again' at' end' rest'
  unfolding repeats
  goes-on rest e r = subst (Sofar ns s o again' at' end') r record {
    met = k ∷ f.met;
    twice =
        f.twice ∙ ap (λ (l : List ℕ). lower again (lowest (repeats ns s f.met l))) e
        ∙ ap (lower again) (lowest-append (cond (is-repeat (number_at ns s q)) (q ∷ []) []) (repeats ns s (number_at ns s q ∷ f.met) rest))
        ∙ sym (lower-assoc again (lowest (cond (is-repeat (number_at ns s q)) (q ∷ []) [])) (lowest (repeats ns s (number_at ns s q ∷ f.met) rest)))
        ∙ rw (← is-k, is-again, repeat-is (is-repeat k) q, ← f.noted k few) refl;
    first = first-next rest e;
    noted = noted-next;
    ended = ended-next;
    nine = nine-next;
    alike = alike-next;
  }
    where
      is-repeat : ℕ → Bool
      is-repeat k = ltb 0 k && is_among f.met k
