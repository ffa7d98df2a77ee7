-- The grammar by depth derives what the RFC's own recursion derives: a derivation has some depth, and one of some depth forgets it. Assumes nothing.
use mathlib.Core.Path.{◌≡◌, subst}
use mathlib.Core.List.{List}
use mathlib.Core.Logic.{◌↔◌}
use Prim.Native.Nat.{ℕ, zero, suc, ◌+◌}
use native.Mathlib.Omega.{arith}
use native.Mathlib.Nat.{add-zero, add-suc}
use Rattle.json_text.specs.Rfc7159.{Rule, ◌⨾◌, both, left, right, Opt, absent, present, Star, none, more, value_separator as ValueSeparator, member as Member}
use Rattle.json_text.specs.Rfc7159.{object as Object, array as Array, value as Value, JSON as Json}
use Rattle.json_text.specs.inner.Plain.{Value as Any, simple, empty-object, object, empty-array, array, Member as AnyMember, member, Members as AnyMembers}
use Rattle.json_text.specs.inner.Plain.{no_member, and-member, Values as AnyValues, no_value, and-value, Text as AnyText}

abbrev Into : Rule → Rule → Type 0
Into A B = (s : List ℕ) → A s → B s

map_star : {A B : Rule} → Into A B → Into (Star A) (Star B)
map_star f s none = none
map_star f s (more {s = p} {t = q} x y) = more (f p x) (map_star f q y)

map_opt : {A B : Rule} → Into A B → Into (Opt A) (Opt B)
map_opt f s absent = absent
map_opt f s (present x) = present (f s x)

map_both : {A A' B B' : Rule} → Into A A' → Into B B' → Into (A ⨾ B) (A' ⨾ B')
map_both f g s (both {s = p} {t = q} x y) = both (f p x) (g q y)

module _ (X Y : Rule) (f : Into X Y) where
  map-member : Into (Member X) (Member Y)
  map-member = map_both (λ s x. x) (map_both (λ s x. x) f)

  map-members : Into (Star (ValueSeparator ⨾ Member X)) (Star (ValueSeparator ⨾ Member Y))
  map-members = map_star (map_both (λ s x. x) map-member)

  map-values : Into (Star (ValueSeparator ⨾ X)) (Star (ValueSeparator ⨾ Y))
  map-values = map_star (map_both (λ s x. x) f)

  map-object : Into (Object X) (Object Y)
  map-object = map_both (λ s x. x) (map_both (map_opt (map_both map-member map-members)) (λ s x. x))

  map-array : Into (Array X) (Array Y)
  map-array = map_both (λ s x. x) (map_both (map_opt (map_both f map-values)) (λ s x. x))

lift-one : (d : ℕ) → Into (Value d) (Value (suc d))
lift-one zero s (left x) = left x
lift-one zero s (right (left x)) = right (left x)
lift-one zero s (right (right (left x))) = right (right (left x))
lift-one zero s (right (right (right x))) = right (right (right (right (right x))))
lift-one (suc d) s (left x) = left x
lift-one (suc d) s (right (left x)) = right (left x)
lift-one (suc d) s (right (right (left x))) = right (right (left x))
lift-one (suc d) s (right (right (right (left x)))) = right (right (right (left (map-object (Value d) (Value (suc d)) (lift-one d) s x))))
lift-one (suc d) s (right (right (right (right (left x))))) = right (right (right (right (left (map-array (Value d) (Value (suc d)) (lift-one d) s x)))))
lift-one (suc d) s (right (right (right (right (right x))))) = right (right (right (right (right x))))

lift : (e d : ℕ) → Into (Value d) (Value (d + e))
lift zero d s x = rw add-zero x
lift (suc e) d s x = rw add-suc (lift-one (d + e) s (lift e d s x))

lift' : (e d : ℕ) → Into (Value d) (Value (e + d))
lift' e d s x = let q : d + e ≡ e + d = omega arith in subst (λ (n : ℕ). Value n s) q (lift e d s x)

-- what has some depth
record Deep (F : Rule → Rule) (s : List ℕ) : Type 0 where
  depth : ℕ
  it : F (Value depth) s

abbrev Members : Rule → Rule
Members X = Star (ValueSeparator ⨾ Member X)

abbrev Values : Rule → Rule
Values X = Star (ValueSeparator ⨾ X)

-- two parts, each to the sum of their depths
module _ {m r : List ℕ} (p : Deep Member m) (q : Deep Members r) where
  up-member : Member (Value (p.depth + q.depth)) m
  up-member = map-member (Value p.depth) _ (lift q.depth p.depth) m p.it

  up-members : Members (Value (p.depth + q.depth)) r
  up-members = map-members (Value q.depth) _ (lift' p.depth q.depth) r q.it

module _ {v r : List ℕ} (p : Deep (λ X. X) v) (q : Deep Values r) where
  up-value : Value (p.depth + q.depth) v
  up-value = lift q.depth p.depth v p.it

  up-values : Values (Value (p.depth + q.depth)) r
  up-values = map-values (Value q.depth) _ (lift' p.depth q.depth) r q.it

deep-any : {s : List ℕ} → Any s → Deep (λ X. X) s
deep-any {s} x =
    elim x as (λ l y. Deep (λ X. X) l) (λ l y. Deep Member l) (λ l y. Deep Members l) (λ l y. Deep Values l) [
      | simple y ↦ record { depth = 0; it = y }
      | empty-object b e ↦ record { depth = 1; it = right (right (right (left (both b (both absent e))))) }
      | object b (m → p) (r → q) e ↦ record
          { depth = suc (p.depth + q.depth); it = right (right (right (left (both b (both (present (both (up-member p q) (up-members p q))) e))))) }
      | empty-array b e ↦ record { depth = 1; it = right (right (right (right (left (both b (both absent e)))))) }
      | array b (v → p) (r → q) e ↦ record
          { depth = suc (p.depth + q.depth); it = right (right (right (right (left (both b (both (present (both (up-value p q) (up-values p q))) e)))))) }
      | member n c (v → p) ↦ record { depth = p.depth; it = both n (both c p.it) }
      | no_member ↦ record { depth = 0; it = none }
      | and-member c (m → p) (r → q) ↦ record { depth = p.depth + q.depth; it = more (both c (up-member p q)) (up-members p q) }
      | no_value ↦ record { depth = 0; it = none }
      | and-value c (v → p) (r → q) ↦ record { depth = p.depth + q.depth; it = more (both c (up-value p q)) (up-values p q) }
    ]

module _ (X : Rule) (f : Into X Any) where
  any-member : {s : List ℕ} → Member X s → AnyMember s
  any-member (both n (both {t = v} c x)) = member n c (f v x)

  any-members : {s : List ℕ} → Star (ValueSeparator ⨾ Member X) s → AnyMembers s
  any-members none = no_member
  any-members (more (both c m) r) = and-member c (any-member m) (any-members r)

  any-values : {s : List ℕ} → Star (ValueSeparator ⨾ X) s → AnyValues s
  any-values none = no_value
  any-values (more (both {t = v} c x) r) = and-value c (f v x) (any-values r)

  any-object : {s : List ℕ} → Object X s → Any s
  any-object (both b (both absent e)) = empty-object b e
  any-object (both b (both (present (both m r)) e)) = object b (any-member m) (any-members r) e

  any_array : {s : List ℕ} → Array X s → Any s
  any_array (both b (both absent e)) = empty-array b e
  any_array (both b (both (present (both {s = v} x r)) e)) = array b (f v x) (any-values r) e

any : (d : ℕ) → Into (Value d) Any
any zero s x = simple x
any (suc d) s (left x) = simple (left x)
any (suc d) s (right (left x)) = simple (right (left x))
any (suc d) s (right (right (left x))) = simple (right (right (left x)))
any (suc d) s (right (right (right (left x)))) = any-object (Value d) (any d) x
any (suc d) s (right (right (right (right (left x))))) = any_array (Value d) (any d) x
any (suc d) s (right (right (right (right (right x))))) = simple (right (right (right x)))

text-deep : {s : List ℕ} → AnyText s → Json s
text-deep (both w (both x u)) = let p = deep-any x in (p.depth, both w (both p.it u))

-- a text of some depth is a text of the plain grammar, and the other way round
pub plain : (s : List ℕ) → Json s ↔ AnyText s
plain s = (λ p. map_both (λ s x. x) (map_both (any p.0) (λ s x. x)) s p.1, text-deep)
