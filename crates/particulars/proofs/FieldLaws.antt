-- The three fields as the code goes through them: one law for each way that it goes. Assumes nothing.
use Prim.Native.Nat.{ℕ, ◌<◌}
use Rattle.json_text.specs.Places.{elements}
use Rattle.particulars.proofs.FaultLaws.{an-object, lowest-if, no-object}
use Rattle.particulars.proofs.LowestLaws.{lower-assoc, lower-none, lowest-append}
use Rattle.particulars.specs.Faults.{faults, members_faults, provider_in}
use Rattle.particulars.specs.Fields.{any_call, locations_faults, locations_from, nearest, provider_at, step_back}
use Rattle.particulars.specs.Lowest.{lower, lowest}
use Rattle.particulars.specs.Members.{values_of}
use Rattle.particulars.specs.declared.types.Kind.TheVariants.{CallerLocation}
use Rattle.std.specs.Prelude.{None, Option, Some}
use Rattle.values.specs.Value.{is_array}
use borrow.Author.Tests.{eq-eqb, ne_eqb, ltb-true}
use lib.Dec.{ltb}
use lib.ListN.{get_or}
use mathlib.Core.Bool.{Bool, true, false, ◌&&◌, cond}
use mathlib.Core.List.{List, [], ◌∷◌, ◌++◌}
use mathlib.Core.Path.{◌≡◌, ap, refl, sym, ◌∙◌}
use native.Mathlib.Omega.{arith}

-- An element of Locations.

module _ (v : List ℕ) (o : ℕ) where
  pub no-location : (get_or v o 0 ≡ 123 → ⊥) → (Some o ≡ lowest (faults 1 any_call CallerLocation v o)) × (0 ≡ provider_at v o)
  unfolding provider_at
  no-location ne = (no-object any_call CallerLocation v o 1 (λ z. omega arith) ne, rw (ne_eqb (get_or v o 0) 123 ne))

  module _ (b : get_or v o 0 ≡ 123) {at : List ℕ} (is : at ≡ values_of CallerLocation v o) where
    pub location-faults : {r : Option ℕ} → r ≡ lowest (members_faults (λ u p. faults 0 any_call u v p) any_call CallerLocation v o at)
        → r ≡ lowest (faults 1 any_call CallerLocation v o)
    location-faults e = an-object any_call CallerLocation v o 1 0 (λ z. omega arith) refl b is e

    pub location-provider : {n : ℕ} → n ≡ provider_in CallerLocation v at → n ≡ provider_at v o
    unfolding provider_at
    location-provider e = e ∙ rw (eq-eqb (get_or v o 0) 123 b, is)

-- the place where a location steps back
back-by : (n w p q : ℕ) → (0 < n → p ≡ q) → cond (ltb 0 n && ltb n w) (Some p) None ≡ cond (ltb 0 n && ltb n w) (Some q) None
back-by n w p q h = by (ltb 0 n) (ltb n w) refl
  where
    by : (a b : Bool) → ltb 0 n ≡ a → cond (a && b) (Some p) None ≡ cond (a && b) (Some q) None
    by true true e = ap Some (h (ltb-true 0 n e))
    by true false e = refl
    by false b e = refl

module _ (v : List ℕ) (w o : ℕ) {n p : ℕ} (is : n ≡ provider_at v o) (place : 0 < n → p ≡ get_or (values_of CallerLocation v o) 2 0) where
  pub stepped : {r : Option ℕ} → r ≡ cond (ltb 0 n && ltb n w) (Some p) None → r ≡ lowest (step_back v w o)
  unfolding step_back
  stepped e =
      e ∙ back-by n w p (get_or (values_of CallerLocation v o) 2 0) place
      ∙ rw is (sym (lowest-if (ltb 0 (provider_at v o) && ltb (provider_at v o) w) (get_or (values_of CallerLocation v o) 2 0)))

-- The locations one after the other.

module _ (v : List ℕ) where
  pub no-array : is_array v ≡ false → Some 0 ≡ lowest (locations_faults v)
  unfolding locations_faults lowest lower
  no-array e = rw e

  pub none-there : is_array v ≡ true → elements v 0 ≡ [] → None ≡ lowest (locations_faults v)
  unfolding locations_faults locations_from lowest
  none-there e z = rw (e, z)

  pub locations-start : is_array v ≡ true → (os : List ℕ) → elements v 0 ≡ os → lowest (locations_faults v) ≡ lower None (lowest (locations_from v 0 os))
  unfolding locations_faults lower
  locations-start e os z = rw (e, z)

  module _ (w o : ℕ) (rest : List ℕ) (low : Option ℕ) {os : List ℕ} (g : os ≡ o ∷ rest) where
    pub locations-more : {a b : Option ℕ} {n : ℕ} → a ≡ lowest (faults 1 any_call CallerLocation v o) → b ≡ lowest (step_back v w o) → n ≡ provider_at v o
        → lower low (lowest (locations_from v w os)) ≡ lower (lower low (lower a b)) (lowest (locations_from v (nearest w n) rest))
    unfolding locations_from
    locations-more {a} {b} {n} e f h =
        let tail = lowest (locations_from v (nearest w (provider_at v o)) rest) in
        ap (λ (l : List ℕ). lower low (lowest (locations_from v w l))) g
        ∙ ap (lower low) (lowest-append (faults 1 any_call CallerLocation v o ++ step_back v w o) (locations_from v (nearest w (provider_at v o)) rest))
        ∙ ap (λ (x : Option ℕ). lower low (lower x tail)) (lowest-append (faults 1 any_call CallerLocation v o) (step_back v w o))
        ∙ rw (← e, ← f, h) (sym (lower-assoc low (lower a b) tail))

  pub locations-over : (w : ℕ) (low : Option ℕ) {os : List ℕ} → os ≡ [] → lower low (lowest (locations_from v w os)) ≡ low
  unfolding locations_from lowest
  locations-over w low g = ap (λ (l : List ℕ). lower low (lowest (locations_from v w l))) g ∙ lower-none low
