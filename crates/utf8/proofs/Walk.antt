-- The walk over a text, one character at a time. Assumes nothing.
use Rattle.std.proofs.Common.{Ok, Err}
use Prim.Native.Nat.{ℕ, zero, suc, ◌+◌, ◌≤◌, ◌<◌}
use Rattle.octets.proofs.TestLaws.{and_parts}
use Rattle.octets.specs.Class.{among}
use Rattle.utf8.specs.Rfc3629.{Bounds, Begins, char, none, begins, goes_on, counted, char_of, char_at, octets}
use lib.ListN.{length, drop, get_or, drop_of_length-le}
use lib.Seq.{drop-cons, drop-drop}
use mathlib.Core.Bool.{Bool, true, false}
use mathlib.Core.List.{List, [], ◌∷◌}
use mathlib.Core.Path.{◌≡◌, refl, sym, ap, ◌∙◌}
use native.Mathlib.Omega.{arith}

-- the octets of a char are there
pub goes-length : (rs : List Bounds) (s : List ℕ) → goes_on rs s ≡ true → length rs ≤ length s
unfolding goes_on
goes-length [] s e = omega arith
goes-length (r ∷ rs) [] e = let z : ◌≡◌ {A = ℕ} 0 1 = cc in omega arith
goes-length (r ∷ rs) (b ∷ s) e = let h = goes-length rs s (and_parts (among r.low r.high b) (goes_on rs s) e).1 in omega arith

counted-length : (t : Bool) (rs : List Bounds) (s : List ℕ) → goes_on rs s ≡ t → counted t (suc (length rs)) ≤ suc (length s)
counted-length true rs s e = let h = goes-length rs s e in omega arith
counted-length false rs s e = omega arith

char-length : (b : ℕ) (s : List ℕ) (x : Begins) → char_of x s ≤ suc (length s)
char-length b s (char rs) = counted-length (goes_on rs s) rs s refl
char-length b s none = omega arith

pub char_at-length : (s : List ℕ) → char_at s ≤ length s
unfolding char_at
char_at-length [] = omega arith
char_at-length (b ∷ s) = char-length b s (begins b)

-- the octets of a char that was begun are passed
tails_passed : (k i : ℕ) (s : List ℕ) → k ≤ length s → octets k i s ≡ octets 0 (i + k) (drop k s)
unfolding octets
tails_passed zero i s h = let e : i + 0 ≡ i = omega arith in rw e
tails_passed (suc k) i [] h = absurd (omega arith)
tails_passed (suc k) i (b ∷ s) h = tails_passed k (suc i) s (omega arith) ∙ ap (λ (n : ℕ). octets 0 n (drop k s)) (let e : suc i + k ≡ i + suc k = omega arith in e)

begun : (k i : ℕ) (b : ℕ) (s : List ℕ) → char_at (b ∷ s) ≡ suc k → octets 0 i (b ∷ s) ≡ octets 0 (i + suc k) (drop k s)
unfolding octets
begun k i b s e =
    let h = char_at-length (b ∷ s) in
    rw e (tails_passed k (suc i) s (omega arith) ∙ ap (λ (n : ℕ). octets 0 n (drop k s)) (let z : suc i + k ≡ i + suc k = omega arith in z))

module _ (s : List ℕ) (i : ℕ) where
  -- a char of n octets at i
  pub char-more : (n : ℕ) → i < length s → n ≡ char_at (drop i s) → (n ≡ 0 → ⊥) → octets 0 i (drop i s) ≡ octets 0 (i + n) (drop (i + n) s)
  char-more zero h e f = absurd (f refl)
  char-more (suc k) h e f =
      let d : drop i s ≡ get_or s i 0 ∷ drop (suc i) s = drop-cons s i 0 h in
      rw d (begun k i (get_or s i 0) (drop (suc i) s) (ap char_at (sym d) ∙ sym e)
      ∙ ap (octets 0 (i + suc k)) (drop-drop k (suc i) s ∙ ap (λ (n : ℕ). drop n s) (let z : suc i + k ≡ i + suc k = omega arith in z)))

  -- no char at i
  pub char-bad : i < length s → 0 ≡ char_at (drop i s) → Err i ≡ octets 0 i (drop i s)
  unfolding octets
  char-bad h e =
      let d : drop i s ≡ get_or s i 0 ∷ drop (suc i) s = drop-cons s i 0 h in
      let z : char_at (get_or s i 0 ∷ drop (suc i) s) ≡ 0 = ap char_at (sym d) ∙ sym e in
      rw (d, z)

  pub ends : length s ≤ i → Ok tt ≡ octets 0 i (drop i s)
  unfolding octets
  ends h = rw (drop_of_length-le s h)
