-- No fault lies outside the text: each place is at most its length. Assumes nothing.
use Prim.Native.Nat.{ℕ, zero, suc, ◌+◌, ◌≤◌, ◌<◌}
use Rattle.json_text.proofs.PlaceLaws.{behind-inner, past-inner}
use Rattle.json_text.specs.Places.{behind, bytes, elements, elements_from, follows, member_at, members, members_from, more, next, past, value_of}
use Rattle.octets.proofs.TextLaws.{there}
use Rattle.particulars.specs.Faults.{Inner, array_faults, choices, each, fault_if, faults, is_needed, members_faults, none_set, object_faults, provider_in, row_faults, rows_faults}
use Rattle.particulars.specs.Faults.{rule_faults}
use Rattle.particulars.specs.Fields.{any_call, caller_faults, live_faults, locations_faults, locations_from, nearest, provider_at, step_back}
use Rattle.particulars.specs.Leaves.{is_blank, keeps}
use Rattle.particulars.specs.Lowest.{lower, lowest, lowest_place, or_zero}
use Rattle.particulars.specs.Members.{first_under, is_among, repeats, values_of}
use Rattle.particulars.specs.Types.{Row, names_of, rows_of}
use Rattle.particulars.specs.declared.types.Call.{Call}
use Rattle.particulars.specs.declared.types.Kind.TheVariants.{CallerInformation, CallerLocation, LiveLocation}
use Rattle.particulars.specs.declared.types.Kind.{Kind}
use Rattle.particulars.specs.declared.types.Rule.TheVariants.{Value, Object, Objects}
use Rattle.particulars.specs.declared.types.Rule.{Rule}
use Rattle.std.specs.Prelude.{None, Option, Some}
use Rattle.values.specs.Value.{is_array, number_at}
use borrow.Author.Tests.{eqb-true, ltb-true}
use lib.Dec.{eqb, leb, ltb}
use lib.ListN.{length, get_or}
use mathlib.Core.Bool.{Bool, true, false, not, ◌&&◌, cond}
use mathlib.Core.List.{List, [], ◌∷◌, ◌++◌, map}
use mathlib.Core.Path.{◌≡◌, refl}
use native.Mathlib.Omega.{arith}

-- every one of these places is at most n
pub data Inside (n : ℕ) : List ℕ → Type 0 where
  none : Inside n []
  more-inside : {p : ℕ} {ps : List ℕ} → p ≤ n → Inside n ps → Inside n (p ∷ ps)

both : {n : ℕ} (a b : List ℕ) → Inside n a → Inside n b → Inside n (a ++ b)
both [] b x y = y
both (p ∷ a) b (more-inside h x) y = more-inside h (both a b x y)

one : {n p : ℕ} → p ≤ n → Inside n (p ∷ [])
one h = more-inside h none

if-inside : {n p : ℕ} (b : Bool) → p ≤ n → Inside n (fault_if b p)
if-inside true h = one h
if-inside false h = none

pub cond-inside : {n : ℕ} (b : Bool) (x y : List ℕ) → Inside n x → Inside n y → Inside n (cond b x y)
cond-inside true x y h g = h
cond-inside false x y h g = g

one-inside : {n : ℕ} (p q : ℕ) (b : Bool) → p ≤ n → q ≤ n → cond b p q ≤ n
one-inside p q true h g = h
one-inside p q false h g = g

lowest-inside : {n : ℕ} (l : List ℕ) → Inside n l → (p : ℕ) → lowest l ≡ Some p → p ≤ n
unfolding lowest lower
lowest-inside [] x p e = absurd (let z : ◌≡◌ {A = ℕ} 0 1 = cc in omega arith)
lowest-inside {n} (q ∷ l) (more-inside h x) p e = by (lowest l) refl e (lowest-inside l x)
  where
    by : (o : Option ℕ) → lowest l ≡ o → lower (Some q) o ≡ Some p → ((r : ℕ) → lowest l ≡ Some r → r ≤ n) → p ≤ n
    by None f g i = let z : q ≡ p = cc in omega arith
    by (Some r) f g i = let z : cond (leb q r) q r ≡ p = cc in let y = one-inside q r (leb q r) h (i r f) in omega (arith, y)

-- the place that answers
pub place-inside : {n : ℕ} (l : List ℕ) → Inside n l → lowest_place l ≤ n
unfolding lowest_place
place-inside {n} l x = by (lowest l) refl
  where
    by : (o : Option ℕ) → lowest l ≡ o → or_zero o ≤ n
    by None e = omega arith
    by (Some p) e = lowest-inside l x p e

-- Places in a text s.

module _ (s : List ℕ) where
  next-inner : (p : ℕ) → p ≤ length s → next s p ≤ length s
  unfolding next
  next-inner p h = by (ltb p (length s)) refl
    where
      by : (b : Bool) → ltb p (length s) ≡ b → cond b (p + 1) p ≤ length s
      by true e = omega (arith, ltb-true p (length s) e)
      by false e = h

  value-inner : (q : ℕ) → q ≤ length s → value_of s q ≤ length s
  unfolding value_of
  value-inner q h =
      past-inner s (next s (past s (behind s q))) (next-inner (past s (behind s q)) (past-inner s (behind s q) (behind-inner s q h)))

  more-of : (f : ℕ → List ℕ) (v : ℕ) → v ≤ length s → ((p : ℕ) → p ≤ length s → Inside (length s) (f p)) → Inside (length s) (more s f v)
  unfolding more follows
  more-of f v h g = by (eqb (get_or s (past s (behind s v)) 0) 44) refl
    where
      by : (b : Bool) → eqb (get_or s (past s (behind s v)) 0) 44 ≡ b → Inside (length s) (cond b (f (past s (behind s v) + 1)) [])
      by true e = g (past s (behind s v) + 1) (omega (arith, there s (past s (behind s v)) 43 (eqb-true (get_or s (past s (behind s v)) 0) 44 e)))
      by false e = none

  members-inner : (n p : ℕ) → p ≤ length s → Inside (length s) (members_from n s p)
  unfolding members_from member_at
  members-inner zero p h = none
  members-inner (suc n) p h = by (eqb (get_or s (past s p) 0) 34) (members-inner n)
    where
      by : (b : Bool) → ((p : ℕ) → p ≤ length s → Inside (length s) (members_from n s p))
          → Inside (length s) (cond b (past s p ∷ more s (members_from n s) (value_of s (past s p))) [])
      by true g = more-inside (past-inner s p h) (more-of (members_from n s) (value_of s (past s p)) (value-inner (past s p) (past-inner s p h)) g)
      by false g = none

  elements-inner : (n p : ℕ) → p ≤ length s → Inside (length s) (elements_from n s p)
  unfolding elements_from
  elements-inner zero p h = none
  elements-inner (suc n) p h = more-inside (past-inner s p h) (more-of (elements_from n s) (past s p) (past-inner s p h) (elements-inner n))

  -- the members of an object, and the elements of an array, that begin in the text
  members-inside : (o : ℕ) → o < length s → Inside (length s) (members s o)
  unfolding members
  members-inside o h = members-inner (length s) (o + 1) (omega arith)

  elements-inside : (o : ℕ) → o < length s → Inside (length s) (elements s o)
  unfolding elements
  elements-inside o h = cond-inside (eqb (get_or s (past s (o + 1)) 0) 93) [] (elements_from (length s) s (o + 1)) none (elements-inner (length s) (o + 1) (omega arith))

  -- the first values
  abbrev Placed : List ℕ → Type 0
  Placed t = (k : ℕ) → get_or t k 0 ≤ length s

  first-inner : (ns : List (List ℕ)) (k : ℕ) (qs : List ℕ) → Inside (length s) qs → first_under ns s k qs ≤ length s
  unfolding first_under
  first-inner ns k [] x = omega arith
  first-inner ns k (q ∷ qs) (more-inside h x) = one-inside (value_of s q) (first_under ns s k qs) (eqb (number_at ns s q) k) (value-inner q h) (first-inner ns k qs x)

  repeats-inside : (ns : List (List ℕ)) (ks qs : List ℕ) → Inside (length s) qs → Inside (length s) (repeats ns s ks qs)
  unfolding repeats
  repeats-inside ns ks [] x = none
  repeats-inside ns ks (q ∷ qs) (more-inside h x) =
      both (cond (ltb 0 (number_at ns s q) && is_among ks (number_at ns s q)) (q ∷ []) []) (repeats ns s (number_at ns s q ∷ ks) qs)
      (cond-inside (ltb 0 (number_at ns s q) && is_among ks (number_at ns s q)) (q ∷ []) [] (one h) none) (repeats-inside ns (number_at ns s q ∷ ks) qs x)

  map-placed : (f : ℕ → ℕ) → ((k : ℕ) → f k ≤ length s) → (ks : List ℕ) → Placed (map f ks)
  map-placed f g [] n = omega arith
  map-placed f g (k ∷ ks) zero = g k
  map-placed f g (k ∷ ks) (suc n) = map-placed f g ks n

  values-placed : (t : Kind) (o : ℕ) → o < length s → Placed (values_of t s o)
  unfolding values_of
  values-placed t o h =
      map-placed (λ k. first_under (names_of t) s k (members s o)) (λ k. first-inner (names_of t) k (members s o) (members-inside o h))
      (0 ∷ 1 ∷ 2 ∷ 3 ∷ 4 ∷ 5 ∷ 6 ∷ 7 ∷ 8 ∷ [])

  -- The faults, from a value that begins in the text or at its end.

  abbrev Within : Inner → Type 0
  Within f = (t : Kind) (p : ℕ) → p ≤ length s → Inside (length s) (f t p)

  each-inside : (f : ℕ → List ℕ) → ((p : ℕ) → p ≤ length s → Inside (length s) (f p)) → (ps : List ℕ) → Inside (length s) ps → Inside (length s) (each f ps)
  unfolding each
  each-inside f g [] x = none
  each-inside f g (p ∷ ps) (more-inside h x) = both (f p) (each f ps) (g p h) (each-inside f g ps x)

  array-inside : (f : ℕ → List ℕ) → ((p : ℕ) → p ≤ length s → Inside (length s) (f p)) → (n p : ℕ) → p ≤ length s → Inside (length s) (array_faults f n s p)
  unfolding array_faults
  array-inside f g n p h = by (eqb (get_or s p 0) 91) (leb (length (elements s p)) n) refl
    where
      by : (a b : Bool) → eqb (get_or s p 0) 91 ≡ a → Inside (length s) (cond (a && b) (each f (elements s p)) (p ∷ []))
      by true true e = each-inside f g (elements s p) (elements-inside p (there s p 90 (eqb-true (get_or s p 0) 91 e)))
      by true false e = one h
      by false b e = one h

  module _ (f : Inner) (g : Within f) (call : Call) (w : ℕ) where
    rule-inside : (p : ℕ) → p ≤ length s → (r : Rule) → Inside (length s) (rule_faults f call w s p r)
    unfolding rule_faults
    rule-inside p h (Value l) = if-inside (not (keeps w l (bytes s p))) h
    rule-inside p h (Object t) = g t p h
    rule-inside p h (Objects n t) = array-inside (f t) (g t) (cond call.contacts n 0) p h

    row-inside : (o p : ℕ) → o ≤ length s → p ≤ length s → (e : Row) → Inside (length s) (row_faults f call w s o p e)
    unfolding row_faults
    row-inside o p h k e =
        cond-inside (eqb p 0) (fault_if (is_needed w e.need) o) _ (if-inside (is_needed w e.need) h)
        (cond-inside (e.eased && (call.training && is_blank (bytes s p))) [] (rule_faults f call w s p e.rule) none (rule-inside p k e.rule))

    rows-inside : (o : ℕ) → o ≤ length s → (at : List ℕ) → Placed at → (k : ℕ) (es : List Row) → Inside (length s) (rows_faults f call w s o at k es)
    unfolding rows_faults
    rows-inside o h at x k [] = none
    rows-inside o h at x k (e ∷ es) =
        both (row_faults f call w s o (get_or at k 0) e) (rows_faults f call w s o at (k + 1) es) (row-inside o (get_or at k 0) h (x k) e) (rows-inside o h at x (k + 1) es)

  object-inside : (f : Inner) → Within f → (call : Call) → Within (λ t o. object_faults f call t s o)
  unfolding object_faults members_faults
  object-inside f g call t o h = by (eqb (get_or s o 0) 123) refl
    where
      by : (b : Bool) → eqb (get_or s o 0) 123 ≡ b → Inside (length s) (cond b (members_faults f call t s o (values_of t s o)) (o ∷ []))
      by false e = one h
      by true e =
          let l = there s o 122 (eqb-true (get_or s o 0) 123 e) in
          both (repeats (names_of t) s [] (members s o)) _ (repeats-inside (names_of t) [] (members s o) (members-inside o l))
          (both (fault_if (none_set s (choices (values_of t s o) 1 (rows_of t))) o) _ (if-inside (none_set s (choices (values_of t s o) 1 (rows_of t))) h)
          (rows-inside f g call (provider_in t s (values_of t s o)) o h (values_of t s o) (values-placed t o l) 1 (rows_of t)))

  faults-inside : (n : ℕ) (call : Call) → Within (λ t o. faults n call t s o)
  unfolding faults
  faults-inside zero call t o h = none
  faults-inside (suc n) call t o h = object-inside (λ u p. faults n call u s p) (faults-inside n call) call t o h

  -- The three fields.

  back-inside : (w o : ℕ) → Inside (length s) (step_back s w o)
  unfolding step_back provider_at
  back-inside w o = by (eqb (get_or s o 0) 123) refl
    where
      by : (b : Bool) → eqb (get_or s o 0) 123 ≡ b
          → Inside (length s) (fault_if (ltb 0 (cond b (provider_in CallerLocation s (values_of CallerLocation s o)) 0)
          && ltb (cond b (provider_in CallerLocation s (values_of CallerLocation s o)) 0) w) (get_or (values_of CallerLocation s o) 2 0))
      by true e =
          if-inside _ (values-placed CallerLocation o (there s o 122 (eqb-true (get_or s o 0) 123 e)) 2)
      by false e = none

  locations-from : (w : ℕ) (os : List ℕ) → Inside (length s) os → Inside (length s) (locations_from s w os)
  unfolding locations_from
  locations-from w [] x = none
  locations-from w (o ∷ os) (more-inside h x) =
      both (faults 1 any_call CallerLocation s o ++ step_back s w o) (locations_from s (nearest w (provider_at s o)) os)
      (both (faults 1 any_call CallerLocation s o) (step_back s w o) (faults-inside 1 any_call CallerLocation o h) (back-inside w o))
      (locations-from (nearest w (provider_at s o)) os x)

  pub locations-inside : Inside (length s) (locations_faults s)
  unfolding locations_faults is_array
  locations-inside = by (eqb (get_or s 0 0) 91) refl
    where
      by : (b : Bool) → eqb (get_or s 0 0) 91 ≡ b → Inside (length s) (cond b (locations_from s 0 (elements s 0)) (0 ∷ []))
      by true e = locations-from 0 (elements s 0) (elements-inside 0 (there s 0 90 (eqb-true (get_or s 0 0) 91 e)))
      by false e = one (omega arith)

  pub caller-inside : (call : Call) → Inside (length s) (caller_faults call s)
  unfolding caller_faults
  caller-inside call = faults-inside 3 call CallerInformation 0 (omega arith)

  pub live-inside : Inside (length s) (live_faults s)
  unfolding live_faults
  live-inside = faults-inside 1 any_call LiveLocation 0 (omega arith)
