-- One turn of a walk over the members of an object or the elements of an array, for the loops of the layers above: the number of turns left falls, and is
-- the fuel of `members_from` and `elements_from`. Assumes nothing.
use mathlib.Core.Path.{◌≡◌, refl}
use mathlib.Core.List.{List, [], ◌∷◌}
use Prim.Native.Nat.{ℕ, zero, suc, ◌+◌, ◌-◌, ◌≤◌, ◌<◌}
use native.Mathlib.Omega.{arith}
use lib.ListN.{length, get_or}
use borrow.Author.Tests.{eq-eqb, ne_eqb}
use Rattle.json_text.specs.Places.{past, value_of, follows, more, member_at, members_from, elements_from, elements}

-- The members from a place on.

module _ (s : List ℕ) (n p : ℕ) where
  pub no_more : {q : ℕ} → q ≡ past s p → (get_or s q 0 ≡ 34 → ⊥) → members_from n s p ≡ []
  unfolding members_from member_at
  no_more {q} e ne = by n
    where
      by : (n : ℕ) → members_from n s p ≡ []
      by zero = refl
      by (suc n) = rw (← e, ne_eqb _ _ ne)

  pub one_more : {q : ℕ} → 0 < n → q ≡ past s p → get_or s q 0 ≡ 34 → members_from n s p ≡ q ∷ more s (members_from (n - 1) s) (value_of s q)
  unfolding members_from member_at
  one_more {q} h e f = by n h
    where
      by : (n : ℕ) → 0 < n → members_from n s p ≡ q ∷ more s (members_from (n - 1) s) (value_of s q)
      by zero h = absurd (omega arith)
      by (suc n) h = let z : suc n - 1 ≡ n = omega arith in rw (← e, eq-eqb _ _ f, z)

pub spent : (s : List ℕ) (n p : ℕ) → n ≤ 0 → members_from n s p ≡ []
unfolding members_from
spent s zero p h = refl
spent s (suc n) p h = absurd (omega arith)

pub no-comma : (s : List ℕ) (f : ℕ → List ℕ) (v : ℕ) {j : ℕ} → j ≡ follows s v → (get_or s j 0 ≡ 44 → ⊥) → more s f v ≡ []
unfolding more
no-comma s f v e ne = rw (← e, ne_eqb _ _ ne)

pub comma : (s : List ℕ) (f : ℕ → List ℕ) (v : ℕ) {j : ℕ} → j ≡ follows s v → get_or s j 0 ≡ 44 → more s f v ≡ f (j + 1)
unfolding more
comma s f v e g = rw (← e, eq-eqb _ _ g)

-- The elements, and those from a place on.

pub no-elements : (s : List ℕ) (o : ℕ) {q : ℕ} → q ≡ past s (o + 1) → get_or s q 0 ≡ 93 → elements s o ≡ []
unfolding elements
no-elements s o e f = rw (← e, eq-eqb _ _ f)

pub some-elements : (s : List ℕ) (o : ℕ) {q : ℕ} → q ≡ past s (o + 1) → (get_or s q 0 ≡ 93 → ⊥) → elements s o ≡ elements_from (length s) s (o + 1)
unfolding elements
some-elements s o e f = rw (← e, ne_eqb _ _ f)

pub one_element : (s : List ℕ) (n p : ℕ) {q : ℕ} → 0 < n → q ≡ past s p → elements_from n s p ≡ q ∷ more s (elements_from (n - 1) s) q
unfolding elements_from
one_element s zero p h e = absurd (omega arith)
one_element s (suc n) p h e = let z : suc n - 1 ≡ n = omega arith in rw (← e, z)

pub no_element : (s : List ℕ) (n p : ℕ) → n ≤ 0 → elements_from n s p ≡ []
unfolding elements_from
no_element s zero p h = refl
no_element s (suc n) p h = absurd (omega arith)
