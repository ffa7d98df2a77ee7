-- The lowest fault as the code goes: a member's, the members' of an object, the elements' of an array, one after the other. One law for each way that the code goes.
-- Assumes nothing.
use Prim.Native.Nat.{ℕ, zero, suc, ◌+◌, ◌≤◌}
use Rattle.json_text.specs.Places.{bytes, elements, members}
use Rattle.octets.specs.Class.{all}
use Rattle.particulars.proofs.LowestLaws.{lower-assoc, lower-none, lowest-append}
use Rattle.particulars.specs.Faults.{Inner, array_faults, choices, each, fault_if, faults, is_choice, is_needed, is_unset, members_faults, none_set, object_faults, provider_in}
use Rattle.particulars.specs.Faults.{provider_under, row_faults, rows_faults, rule_faults}
use Rattle.particulars.specs.Leaves.{is_blank, keeps}
use Rattle.particulars.specs.Lowest.{lower, lowest}
use Rattle.particulars.specs.Members.{repeats, values_of}
use Rattle.particulars.specs.Types.{Row, names_of, rows_of}
use Rattle.particulars.specs.declared.types.Call.{Call}
use Rattle.particulars.specs.declared.types.Kind.TheVariants.{CallerLocation, CallerInformation, PersonalInformation, HomeLocation, EmergencyContact, RegionInformation}
use Rattle.particulars.specs.declared.types.Kind.TheVariants.{LiveLocation}
use Rattle.particulars.specs.declared.types.Kind.{Kind}
use Rattle.particulars.specs.declared.types.Leaf.{Leaf}
use Rattle.particulars.specs.declared.types.Rule.TheVariants.{Value, Object, Objects}
use Rattle.std.specs.Bool.{then_some}
use Rattle.std.specs.Prelude.{None, Option, Some}
use borrow.Author.Tests.{eq-eqb, ne_eqb, le-leb, lt-leb, lt-ltb}
use lib.Dec.{leb, ltb}
use lib.ListN.{length, get_or}
use mathlib.Core.Bool.{Bool, true, false, ◌&&◌, ◌||◌, and-false, cond}
use mathlib.Core.List.{List, [], ◌∷◌}
use mathlib.Core.Path.{◌≡◌, ap, refl, sym, ◌∙◌}
use native.Mathlib.Omega.{arith}

pub lowest-if : (b : Bool) (p : ℕ) → lowest (fault_if b p) ≡ cond b (Some p) None
unfolding lowest lower
lowest-if true p = refl
lowest-if false p = refl

pub then-some : (b : Bool) (o : ℕ) → then_some b o ≡ cond b (Some o) None
then-some true o = refl
then-some false o = refl

-- A member, whose value stands at p.

module _ (f : Inner) (call : Call) (w : ℕ) (s : List ℕ) (o p : ℕ) (e : Row) where
  pub missing : p ≡ 0 → {b : Bool} → b ≡ is_needed w e.need → {r : Option ℕ} → r ≡ cond b (Some o) None → r ≡ lowest (row_faults f call w s o p e)
  unfolding row_faults
  missing z {b} g h = h ∙ rw (z, ← g) (sym (lowest-if b o))

  module _ (there : p ≡ 0 → ⊥) where
    pub let-off : e.eased ≡ true → call.training ≡ true → is_blank (bytes s p) ≡ true → None ≡ lowest (row_faults f call w s o p e)
    unfolding row_faults lowest
    let-off a b c = rw (ne_eqb p 0 there, a, b, c)

    pub ruled-row : (e.eased && (call.training && is_blank (bytes s p))) ≡ false → {r : Option ℕ} → r ≡ lowest (rule_faults f call w s p e.rule)
        → r ≡ lowest (row_faults f call w s o p e)
    unfolding row_faults
    ruled-row a g = g ∙ sym (rw (ne_eqb p 0 there, a))

module _ (f : Inner) (call : Call) (w : ℕ) (s : List ℕ) (p : ℕ) where
  pub kept : (l : Leaf) → keeps w l (bytes s p) ≡ true → None ≡ lowest (rule_faults f call w s p (Value l))
  unfolding rule_faults lowest
  kept l e = rw e

  pub an-object-under : (t : Kind) {r : Option ℕ} → r ≡ lowest (f t p) → r ≡ lowest (rule_faults f call w s p (Object t))
  unfolding rule_faults
  an-object-under t e = e

  pub objects-under : (n : ℕ) (t : Kind) {m : ℕ} {r : Option ℕ} → m ≡ cond call.contacts n 0 → r ≡ lowest (array_faults (f t) m s p)
      → r ≡ lowest (rule_faults f call w s p (Objects n t))
  unfolding rule_faults
  objects-under n t e g = g ∙ rw e refl

  pub broken : (l : Leaf) → keeps w l (bytes s p) ≡ false → Some p ≡ lowest (rule_faults f call w s p (Value l))
  unfolding rule_faults lowest lower
  broken l e = rw e

-- The provider of a location.

pub location-provider : (s at : List ℕ) {t : Kind} → t ≡ CallerLocation → provider_under s (get_or at 2 0) ≡ provider_in t s at
unfolding provider_in
location-provider s at k = rw k

pub other-kind : (s at : List ℕ) (t : Kind) → (t ≡ CallerLocation → ⊥) → 0 ≡ provider_in t s at
unfolding provider_in
other-kind s at CallerLocation ne = absurd (ne refl)
other-kind s at CallerInformation ne = refl
other-kind s at PersonalInformation ne = refl
other-kind s at HomeLocation ne = refl
other-kind s at EmergencyContact ne = refl
other-kind s at RegionInformation ne = refl
other-kind s at LiveLocation ne = refl

-- The members of an object.

module _ (f : Inner) (call : Call) (t : Kind) (s : List ℕ) (o : ℕ) (at : List ℕ) where
  pub rows-start : {again unset : Option ℕ} {w : ℕ} {es : List Row} → again ≡ lowest (repeats (names_of t) s [] (members s o))
      → unset ≡ cond (none_set s (choices at 1 (rows_of t))) (Some o) None → w ≡ provider_in t s at → es ≡ rows_of t
      → lowest (members_faults f call t s o at) ≡ lower (lower again unset) (lowest (rows_faults f call w s o at 1 es))
  unfolding members_faults
  rows-start {again} {unset} {w} {es} a u i z =
      lowest-append (repeats (names_of t) s [] (members s o)) _
      ∙ ap (lower (lowest (repeats (names_of t) s [] (members s o))))
      (lowest-append (fault_if (none_set s (choices at 1 (rows_of t))) o) (rows_faults f call (provider_in t s at) s o at 1 (rows_of t)))
      ∙ rw (← a, i, z, u, lowest-if (none_set s (choices at 1 (rows_of t))) o)
      (sym (lower-assoc again (cond (none_set s (choices at 1 (rows_of t))) (Some o) None) (lowest (rows_faults f call (provider_in t s at) s o at 1 (rows_of t)))))

  pub rows-more : (w k : ℕ) (e : Row) (es : List Row) (low : Option ℕ) {one : Option ℕ} {all : List Row} → all ≡ e ∷ es → one ≡ lowest (row_faults f call w s o (get_or at k 0) e)
      → lower low (lowest (rows_faults f call w s o at k all)) ≡ lower (lower low one) (lowest (rows_faults f call w s o at (k + 1) es))
  unfolding rows_faults
  rows-more w k e es low {one} g h =
      ap (λ (l : List Row). lower low (lowest (rows_faults f call w s o at k l))) g
      ∙ ap (lower low) (lowest-append (row_faults f call w s o (get_or at k 0) e) (rows_faults f call w s o at (k + 1) es))
      ∙ rw (← h) (sym (lower-assoc low one (lowest (rows_faults f call w s o at (k + 1) es))))

  pub rows-over : (w k : ℕ) (low : Option ℕ) {all : List Row} → all ≡ [] → lower low (lowest (rows_faults f call w s o at k all)) ≡ low
  unfolding rows_faults lowest
  rows-over w k low g = ap (λ (l : List Row). lower low (lowest (rows_faults f call w s o at k l))) g ∙ lower-none low

-- The members of which one must be set: whether none is, where some are passed and unset.

unfoldable pub none_from : Bool → List ℕ → List ℕ → ℕ → List Row → Bool
none_from some s at k es = (some || ltb 0 (length (choices at k es))) && all (is_unset s) (choices at k es)

module _ (s at : List ℕ) where
  pub none-start : (es : List Row) → none_set s (choices at 1 es) ≡ none_from false s at 1 es
  unfolding none_set none_from
  none-start es = refl

  module _ (some : Bool) (k : ℕ) (e : Row) (es : List Row) {rows : List Row} (g : rows ≡ e ∷ es) where
    pub none-other : is_choice e.need ≡ false → none_from some s at k rows ≡ none_from some s at (k + 1) es
    unfolding none_from choices
    none-other a = rw (g, a)

    pub some-is-set : is_choice e.need ≡ true → is_unset s (get_or at k 0) ≡ false → false ≡ none_from some s at k rows
    unfolding none_from choices all
    some-is-set a b = rw (g, a, b) (sym (and-false (some || ltb 0 (suc (length (choices at (k + 1) es))))))

    pub one-unset : is_choice e.need ≡ true → is_unset s (get_or at k 0) ≡ true → none_from some s at k rows ≡ none_from true s at (k + 1) es
    unfolding none_from choices all
    one-unset a b =
        rw (g, a, b, lt-ltb 0 (suc (length (choices at (k + 1) es))) (omega arith))
        (ap (λ (x : Bool). x && all (is_unset s) (choices at (k + 1) es)) (or-true some))
      where
        or-true : (a : Bool) → (a || true) ≡ true
        or-true true = refl
        or-true false = refl

  pub none-over : (some : Bool) (k : ℕ) {rows : List Row} → rows ≡ [] → some ≡ none_from some s at k rows
  unfolding none_from choices all
  none-over some k g = rw g (by some)
    where
      by : (b : Bool) → b ≡ ((b || false) && true)
      by true = refl
      by false = refl

-- The objects of an array, of which n are passed, and the lowest of their faults.

unfoldable pub array_from : (ℕ → List ℕ) → ℕ → ℕ → ℕ → Option ℕ → List ℕ → Option ℕ
array_from f most a n low qs = cond (leb (n + length qs) most) (lower low (lowest (each f qs))) (Some a)

lowest-cond : (b : Bool) (x y : List ℕ) → lowest (cond b x y) ≡ cond b (lowest x) (lowest y)
lowest-cond true x y = refl
lowest-cond false x y = refl

module _ (f : ℕ → List ℕ) (most : ℕ) (s : List ℕ) (a : ℕ) where
  pub no-array : (get_or s a 0 ≡ 91 → ⊥) → Some a ≡ lowest (array_faults f most s a)
  unfolding array_faults lowest lower
  no-array ne = rw (ne_eqb (get_or s a 0) 91 ne)

  pub no-objects : get_or s a 0 ≡ 91 → elements s a ≡ [] → None ≡ lowest (array_faults f most s a)
  unfolding array_faults each lowest
  no-objects b e = rw (eq-eqb (get_or s a 0) 91 b, e, le-leb 0 most (omega arith))

  pub array-start : get_or s a 0 ≡ 91 → (qs : List ℕ) → elements s a ≡ qs → lowest (array_faults f most s a) ≡ array_from f most a 0 None qs
  unfolding array_faults array_from lowest lower
  array-start b qs e =
      let z : 0 + length qs ≡ length qs = omega arith in
      rw (eq-eqb (get_or s a 0) 91 b, e, z) (lowest-cond (leb (length qs) most) (each f qs) (a ∷ []))

  module _ (n q : ℕ) (rest : List ℕ) (low : Option ℕ) {qs : List ℕ} (g : qs ≡ q ∷ rest) where
    pub array-full : n ≡ most → Some a ≡ array_from f most a n low qs
    unfolding array_from
    array-full e = rw (g, lt-leb (n + suc (length rest)) most (omega (arith, e)))

    pub array-more : {one : Option ℕ} → one ≡ lowest (f q) → array_from f most a n low qs ≡ array_from f most a (n + 1) (lower low one) rest
    unfolding array_from each
    array-more {one} e =
        let z : n + suc (length rest) ≡ n + 1 + length rest = omega arith in
        rw (g, z, e) (ap (λ (x : Option ℕ). cond (leb (n + 1 + length rest) most) x (Some a))
        (ap (lower low) (lowest-append (f q) (each f rest)) ∙ sym (lower-assoc low (lowest (f q)) (lowest (each f rest)))))

  pub array-over : (n : ℕ) (low : Option ℕ) {qs : List ℕ} → qs ≡ [] → n ≤ most → low ≡ array_from f most a n low qs
  unfolding array_from each lowest
  array-over n low g h = rw (g, le-leb (n + 0) most (omega arith)) (sym (lower-none low))

-- An object of a type.

module _ (call : Call) (t : Kind) (s : List ℕ) (o : ℕ) where
  pub no-levels : (n : ℕ) → n ≡ 0 → None ≡ lowest (faults n call t s o)
  unfolding faults lowest
  no-levels n z = rw z

  pub no-object : (n : ℕ) → (n ≡ 0 → ⊥) → (get_or s o 0 ≡ 123 → ⊥) → Some o ≡ lowest (faults n call t s o)
  unfolding faults object_faults lowest lower
  no-object zero ne b = absurd (ne refl)
  no-object (suc n) ne b = rw (ne_eqb (get_or s o 0) 123 b)

  pub an-object : (n m : ℕ) → (n ≡ 0 → ⊥) → m + 1 ≡ n → get_or s o 0 ≡ 123 → {at : List ℕ} → at ≡ values_of t s o → {r : Option ℕ}
      → r ≡ lowest (members_faults (λ u p. faults m call u s p) call t s o at) → r ≡ lowest (faults n call t s o)
  unfolding faults object_faults
  an-object zero m ne z b g h = absurd (ne refl)
  an-object (suc n) m ne z b g h = let y : m ≡ n = omega arith in h ∙ rw (eq-eqb (get_or s o 0) 123 b, g, y)
