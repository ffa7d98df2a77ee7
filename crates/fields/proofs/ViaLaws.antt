-- The rule of Via, one object at a time. Assumes nothing.
use Rattle.json_text.proofs.TurnLaws.{no-elements, some-elements}
use Rattle.fields.specs.inner.Gathering.{Gathered}
use Prim.Native.Nat.{ℕ, suc, ◌+◌, ◌≤◌}
use Rattle.json_text.specs.Places.{past, bytes, members, elements, elements_from}
use Rattle.fields.specs.Trail.{host_span}
use Rattle.values.specs.Spans.{spelling_span}
use Rattle.values.specs.Value.{is_array, ruled}
use Rattle.fields.specs.Known.{empty, repeated}
use Rattle.fields.specs.Via.{hop_places, hop_rule, hop_keeps, is_hop, via_rule}
use Rattle.octets.proofs.ClassLaws.{in_among, among-high}
use Rattle.octets.specs.Class.{among, all}
use Rattle.rules.specs.Names.{hop_members}
use borrow.Author.Tests.{eq-eqb, ne_eqb, lt-ltb, le-ltb}
use lib.ListN.{length, get_or}
use mathlib.Core.Bool.{Bool, true, false, ◌&&◌, and-false}
use mathlib.Core.List.{List, [], ◌∷◌}
use mathlib.Core.Path.{◌≡◌, ap, refl, sym, ◌∙◌}
use native.Mathlib.Omega.{arith}

-- An object of Via.

module _ (v : List ℕ) (o : ℕ) where
  pub not-object : (get_or v o 0 ≡ 123 → ⊥) → is_hop v o ≡ false
  unfolding is_hop
  not-object ne = rw (ne_eqb _ _ ne)

  module _ (e : get_or v o 0 ≡ 123) where
    pub twice_one : (repeated hop_members v empty (members v o) ≡ 0 → ⊥) → is_hop v o ≡ false
    unfolding is_hop
    twice_one ne = rw (eq-eqb _ _ e, ne_eqb _ _ ne)

    module _ {at : List ℕ} (g : Gathered hop_members v o 0 at) where
      pub once-each : is_hop v o ≡ (hop_keeps v (get_or at 1 0) 1 && (hop_keeps v (get_or at 2 0) 2 && hop_keeps v (get_or at 3 0) 3))
      unfolding is_hop hop_places
      once-each = rw (eq-eqb _ _ e, ← g.first, ← (g.all refl))

      pub host-found : spelling_span v (get_or at 1 0) ≡ host_span v o
      unfolding host_span hop_places
      host-found = rw (← (g.all refl))

-- a value that is not there, and one that is
pub not_there : (v : List ℕ) (p n : ℕ) → p ≡ 0 → false ≡ hop_keeps v p n
unfolding hop_keeps
not_there v p n e = rw (le-ltb 0 p (omega arith))

pub is-there : (v : List ℕ) (p n : ℕ) {x : List ℕ} {r : Bool} → (p ≡ 0 → ⊥) → x ≡ bytes v p → r ≡ ruled (hop_rule n) x → r ≡ hop_keeps v p n
unfolding hop_keeps
is-there v p n ne e f = f ∙ rw (lt-ltb 0 p (omega arith), e)

-- an object that lacks one of the three members
module _ (v : List ℕ) (o : ℕ) (e : get_or v o 0 ≡ 123) {at : List ℕ} (g : Gathered hop_members v o 0 at) where
  pub no_host : get_or at 1 0 ≡ 0 → is_hop v o ≡ false
  no_host z = once-each v o e g ∙ rw (sym (not_there v (get_or at 1 0) 1 z)) refl

  pub no_destination : get_or at 2 0 ≡ 0 → is_hop v o ≡ false
  no_destination z = once-each v o e g ∙ rw (sym (not_there v (get_or at 2 0) 2 z)) (and-false (hop_keeps v (get_or at 1 0) 1))

  pub no_organization : get_or at 3 0 ≡ 0 → is_hop v o ≡ false
  no_organization z =
      once-each v o e g
      ∙ rw (sym (not_there v (get_or at 3 0) 3 z), and-false (hop_keeps v (get_or at 2 0) 2)) (and-false (hop_keeps v (get_or at 1 0) 1))

-- The objects from the k-th on.

unfoldable pub via_from : List ℕ → ℕ → List ℕ → Bool
via_from v k qs = among 1 16 (k + length qs) && all (is_hop v) qs

module _ (v : List ℕ) where
  pub not-array : is_array v ≡ false → false ≡ via_rule v
  unfolding via_rule
  not-array e = rw e

  module _ (e : is_array v ≡ true) {q : ℕ} (f : q ≡ past v 1) where
    pub no-object : get_or v q 0 ≡ 93 → false ≡ via_rule v
    unfolding via_rule among
    no-object g = rw (e, no-elements v 0 f g)

    pub from_first : (get_or v q 0 ≡ 93 → ⊥) → via_rule v ≡ via_from v 0 (elements_from (length v) v 1)
    unfolding via_rule via_from
    from_first g =
        let els : elements v 0 ≡ elements_from (length v) v 1 = some-elements v 0 f g in
        let none : (n : ℕ) → n ≡ 0 + n = λ n. omega arith in
        rw (e, els) (ap (λ (n : ℕ). among 1 16 n && all (is_hop v) (elements_from (length v) v 1)) (none (length (elements_from (length v) v 1))))

  module _ (k q : ℕ) (rest : List ℕ) where
    pub seventeenth : k ≡ 16 → via_from v k (q ∷ rest) ≡ false
    unfolding via_from
    seventeenth e = rw (among-high 1 16 (k + suc (length rest)) (omega arith) (omega arith))

    pub broken : is_hop v q ≡ false → via_from v k (q ∷ rest) ≡ false
    unfolding via_from all
    broken e = rw e (and-false (among 1 16 (k + suc (length rest))))

    pub further : is_hop v q ≡ true → via_from v k (q ∷ rest) ≡ via_from v (k + 1) rest
    unfolding via_from all
    further e =
        let z : k + suc (length rest) ≡ k + 1 + length rest = omega arith in
        rw (e, z)

  pub at-end : (k : ℕ) → 1 ≤ k → k ≤ 16 → via_from v k [] ≡ true
  unfolding via_from all
  at-end k h g = rw (in_among 1 16 (k + 0) (omega arith) (omega arith))
