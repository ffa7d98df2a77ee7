-- What `spells` means, and its loop, a law for each way through it. Assumes nothing.
use Prim.Native.Nat.{ℕ, suc, ◌+◌, ◌-◌, ◌≤◌, ◌<◌}
use Rattle.escapes.proofs.EncodingLaws.{at_least_one, at-most-four}
use Rattle.escapes.proofs.LetterLaws.{text-own, broken-own, text-escape, broken-escape, text-end, broken-end}
use Rattle.escapes.specs.Encoding.{encoded}
use Rattle.escapes.specs.Rfc7159.{is_surrogate, escape_of, text, is_broken, spells}
use Rattle.escapes.specs.declared.reading.Escape.{Escape}
use Rattle.octets.proofs.TestLaws.{and_parts, clash}
use Rattle.octets.proofs.TextLaws.{same-eq, eq-same, ne_same}
use Rattle.octets.specs.Text.{same, stands_at}
use borrow.Author.Tests.{eq-eqb, ne_eqb, not-true}
use lib.Dec.{eqb}
use lib.ListN.{length, take, drop, get_or, length-drop, length-take, drop_of_length-le, take-append-drop}
use lib.Seq.{drop-cons, drop-drop, take-append_seam, sets, sets-eq, length-sets}
use mathlib.Core.Bool.{Bool, true, false, not, and-false, cond}
use mathlib.Core.List.{List, [], ◌∷◌, ◌++◌}
use mathlib.Core.Path.{◌≡◌, refl, sym, ap, ◌∙◌}
use native.Mathlib.Numerals.{add-one}
use native.Mathlib.Omega.{arith}

-- the test means that the string is not broken and its text is w
pub spells-text : (s w : List ℕ) → spells s w ≡ true → (is_broken s ≡ false) × (text s ≡ w)
unfolding spells
spells-text s w e =
    let p = and_parts (not (is_broken s)) (same (text s) w) e in
    (not-true (is_broken s) p.0, same-eq (text s) w p.1)

pub text-spells : (s w : List ℕ) → is_broken s ≡ false → text s ≡ w → spells s w ≡ true
unfolding spells
text-spells s w b e = rw b (eq-same (text s) w e)

-- Octets that stand in a text.

-- it goes on with them
stands-split : (w v : List ℕ) (j : ℕ) → stands_at w j v ≡ true → drop j w ≡ v ++ drop (j + length v) w
unfolding stands_at
stands-split w v j e =
    let t : take (length v) (drop j w) ≡ v = same-eq (take (length v) (drop j w)) v e in
    sym (take-append-drop (length v) (drop j w)) ∙ ap (λ (l : List ℕ). l ++ drop (length v) (drop j w)) t ∙ ap (λ (l : List ℕ). v ++ l) (drop-drop (length v) j w)

stands-inside : (w v : List ℕ) (j : ℕ) → 1 ≤ length v → stands_at w j v ≡ true → j + length v ≤ length w
unfolding stands_at
stands-inside w v j h e =
    let t : length (take (length v) (drop j w)) ≡ length v = ap length (same-eq (take (length v) (drop j w)) v e) in
    omega (arith, simp (length-take, length-drop) at t)

same-behind : (v t u : List ℕ) → same (v ++ t) (v ++ u) ≡ same t u
unfolding same
same-behind [] t u = refl
same-behind (x ∷ v) t u = rw (eq-eqb x x refl) (same-behind v t u)

same-apart : (w v t : List ℕ) (j : ℕ) → stands_at w j v ≡ false → same (v ++ t) (drop j w) ≡ false
unfolding stands_at
same-apart w v t j e = ne_same (v ++ t) (drop j w) (λ f.
    clash (eq-same (take (length v) (drop j w)) v (ap (take (length v)) (sym f) ∙ take-append_seam v t)) e)

-- A test by the number of octets, which is 0 where it fails.

counted : (t : Bool) (n : ℕ) → cond t n 0 ≡ 0 → 1 ≤ n → t ≡ false
counted true n e h = let z : n ≡ 0 = e in absurd (omega arith)
counted false n e h = refl

counts : (t : Bool) (n r : ℕ) → r ≡ cond t n 0 → (r ≡ 0 → ⊥) → (t ≡ true) × (r ≡ n)
counts true n r e h = (refl, e)
counts false n r e h = absurd (h e)

-- The loop: the rests decide.

module _ (s w : List ℕ) (i j : ℕ) (h : i < length s) where
  module _ (ne : get_or s i 0 ≡ 92 → ⊥) where
    pub own-goes : j < length w → get_or w j 0 ≡ get_or s i 0 → spells (drop i s) (drop j w) ≡ spells (drop (i + 1) s) (drop (j + 1) w)
    unfolding spells same
    own-goes k e =
        let d : drop j w ≡ get_or w j 0 ∷ drop (suc j) w = drop-cons w j 0 k in
        rw (text-own s i h ne, broken-own s i h ne, d, e, eq-eqb (get_or s i 0) (get_or s i 0) refl, add-one j)

    pub own-stops : j < length w → (get_or w j 0 ≡ get_or s i 0 → ⊥) → spells (drop i s) (drop j w) ≡ false
    unfolding spells same
    own-stops k e =
        let d : drop j w ≡ get_or w j 0 ∷ drop (suc j) w = drop-cons w j 0 k in
        rw (text-own s i h ne, d, ne_eqb (get_or s i 0) (get_or w j 0) (λ f. e (sym f))) (and-false (not (is_broken (drop i s))))

    pub own-past : length w ≤ j → spells (drop i s) (drop j w) ≡ false
    unfolding spells same
    own-past k = rw (text-own s i h ne, drop_of_length-le w k) (and-false (not (is_broken (drop i s))))

  module _ (eq : get_or s i 0 ≡ 92) (e : Escape) (f : e ≡ escape_of (drop i s)) where
    pub escape-lone : is_surrogate e.code ≡ true → spells (drop i s) (drop j w) ≡ false
    unfolding spells
    escape-lone g = rw (broken-escape s i h e f eq, g)

    module _ (n : ℕ) (k : n ≡ cond (stands_at w j (encoded e.code)) (length (encoded e.code)) 0) where
      pub escape-stops : n ≡ 0 → spells (drop i s) (drop j w) ≡ false
      unfolding spells
      escape-stops z =
          let t = counted (stands_at w j (encoded e.code)) (length (encoded e.code)) (sym k ∙ z) (at_least_one e.code) in
          let a = same-apart w (encoded e.code) (text (drop (i + e.took) s)) j t in
          rw (text-escape s i h e f eq, a) (and-false (not (is_broken (drop i s))))

      module _ (z : n ≡ 0 → ⊥) where
        there : (stands_at w j (encoded e.code) ≡ true) × (n ≡ length (encoded e.code))
        there = counts (stands_at w j (encoded e.code)) (length (encoded e.code)) n k z

        pub text-room : j + n ≤ length w
        text-room = let l = there.1 in omega (arith, stands-inside w (encoded e.code) j (at_least_one e.code) there.0)

        pub escape-goes : is_surrogate e.code ≡ false → spells (drop i s) (drop j w) ≡ spells (drop (i + e.took) s) (drop (j + n) w)
        unfolding spells
        escape-goes g =
            let b = same-behind (encoded e.code) (text (drop (i + e.took) s)) (drop (j + length (encoded e.code)) w) in
            rw (there.1, broken-escape s i h e f eq, g, text-escape s i h e f eq, stands-split w (encoded e.code) j there.0, b)

pub all_read : (s w : List ℕ) (i j : ℕ) → length s ≤ i → j ≤ length w → spells (drop i s) (drop j w) ≡ eqb j (length w)
unfolding spells same
all_read s w i j h k = rw (text-end s i h, broken-end s i h) (go (drop j w) refl)
  where
    go : (l : List ℕ) → drop j w ≡ l → same [] l ≡ eqb j (length w)
    go [] e = sym (eq-eqb j (length w) (let l : length w - j ≡ 0 = sym (length-drop j w) ∙ ap length e in omega arith))
    go (x ∷ l) e = sym (ne_eqb j (length w) (λ q. let m : length w - j ≡ suc (length l) = sym (length-drop j w) ∙ ap length e in omega arith))

-- The octets of a number, taken from a small buffer.

module _ (s : List ℕ) (at c : ℕ) (w₀ w : List ℕ) (n : ℕ) (f : (n ≡ 0 + length (encoded c)) × (w ≡ sets w₀ 0 (encoded c))) (l : length w ≡ 4) where
  whole : take (n - 0) (drop 0 w) ≡ encoded c
  whole =
      let e : length w₀ ≡ 4 = sym (length-sets w₀ 0 (encoded c)) ∙ ap length (sym f.1) ∙ l in
      let b = at-most-four c in
      let d : sets w₀ 0 (encoded c) ≡ encoded c ++ drop (0 + length (encoded c)) w₀ = sets-eq (encoded c) w₀ 0 (omega arith) in
      let m : n - 0 ≡ length (encoded c) = (let q = f.0 in omega arith) in
      rw (f.1, m, d) (take-append_seam (encoded c) (drop (0 + length (encoded c)) w₀))

  pub code-there : (r : Bool) → r ≡ stands_at s at (take (n - 0) (drop 0 w)) → r ≡ true → n ≡ cond (stands_at s at (encoded c)) (length (encoded c)) 0
  code-there r e g =
      let k : stands_at s at (encoded c) ≡ true = ap (stands_at s at) (sym whole) ∙ sym e ∙ g in
      rw k (let q = f.0 in omega arith)

  pub code-not-there : (r : Bool) → r ≡ stands_at s at (take (n - 0) (drop 0 w)) → r ≡ false → 0 ≡ cond (stands_at s at (encoded c)) (length (encoded c)) 0
  code-not-there r e g =
      let k : stands_at s at (encoded c) ≡ false = ap (stands_at s at) (sym whole) ∙ sym e ∙ g in
      rw k
