-- What the answers of `rules` say of a text's rule. Assumes nothing.
use Rattle.json_text.proofs.TurnLaws.{no-elements, some-elements}
use Prim.Native.Nat.{ℕ}
use Rattle.json_text.specs.Places.{past, elements, elements_from}
use Rattle.fields.specs.Field.{strings_field}
use Rattle.values.specs.Value.{is_array}
use Rattle.octets.specs.Class.{all}
use Rattle.rules.specs.Address.{address_rule, address_of}
use Rattle.rules.specs.Pieces.{decimal_at}
use Rattle.rules.specs.Sequence.{sequence_rule, sequence_of}
use Rattle.rules.specs.Status.{status_rule, status_of}
use Rattle.rules.specs.declared.addresses.Address.{Address}
use Rattle.rules.specs.declared.sequences.Sequence.{Sequence}
use Rattle.std.specs.Prelude.{None, Some, is_some}
use lib.Dec.{eqb}
use lib.ListN.{length, get_or}
use mathlib.Core.Bool.{Bool, true, false, cond}
use mathlib.Core.List.{List, [], ◌∷◌}
use mathlib.Core.Path.{◌≡◌, refl}

module _ {A : Type 0} (a : A) where
  was_kept : (b : Bool) {x : A} → Some x ≡ cond b (Some a) None → true ≡ b
  was_kept true e = refl
  was_kept false e = cc

  was_broken : (b : Bool) → None ≡ cond b (Some a) None → false ≡ b
  was_broken true e = cc
  was_broken false e = refl

module _ (t : List ℕ) where
  -- CSeq
  pub sequence-kept : {q : Sequence} → Some q ≡ sequence_of t → true ≡ sequence_rule t
  unfolding sequence_of
  sequence-kept e = was_kept _ (sequence_rule t) e

  pub sequence-broken : None ≡ sequence_of t → false ≡ sequence_rule t
  unfolding sequence_of
  sequence-broken e = was_broken _ (sequence_rule t) e

  -- Status
  pub status-kept : {n : ℕ} → Some n ≡ status_of t → true ≡ status_rule t
  unfolding status_of
  status-kept e = was_kept _ (status_rule t) e

  pub status-broken : None ≡ status_of t → false ≡ status_rule t
  unfolding status_of
  status-broken e = was_broken _ (status_rule t) e

  pub status-found : is_some (status_of t) ≡ status_rule t
  unfolding status_of
  status-found = by (status_rule t)
    where
      by : (b : Bool) → is_some (cond b (Some (decimal_at 3 t 0)) None) ≡ b
      by true = refl
      by false = refl

  -- To and From
  pub address_kept : {a : Address} → Some a ≡ address_of t → true ≡ address_rule t
  unfolding address_of
  address_kept e = was_kept _ (address_rule t) e

  pub address_broken : None ≡ address_of t → false ≡ address_rule t
  unfolding address_of
  address_broken e = was_broken _ (address_rule t) e

-- an array of strings, one element at a time

abbrev pub quotes : List ℕ → ℕ → Bool
quotes v q = eqb (get_or v q 0) 34

module _ (v : List ℕ) where
  pub not_list : is_array v ≡ false → false ≡ strings_field v
  unfolding strings_field
  not_list e = rw e

  module _ (e : is_array v ≡ true) {q : ℕ} (f : q ≡ past v 1) where
    pub empty_list : get_or v q 0 ≡ 93 → true ≡ strings_field v
    unfolding strings_field all
    empty_list g = rw (e, no-elements v 0 f g)

    pub list_from : {n : ℕ} → n ≡ length v → (get_or v q 0 ≡ 93 → ⊥) → strings_field v ≡ all (quotes v) (elements_from n v 1)
    unfolding strings_field
    list_from z g = let els : elements v 0 ≡ elements_from (length v) v 1 = some-elements v 0 f g in rw (z, e, els)

-- a test of every element, one element at a time
module _ (f : ℕ → Bool) (s : List ℕ) (q : ℕ) (rest : List ℕ) where
  pub every_more : f q ≡ true → all f (q ∷ rest) ≡ all f rest
  unfolding all
  every_more e = rw e

  pub every-stops : f q ≡ false → all f (q ∷ rest) ≡ false
  unfolding all
  every-stops e = rw e

pub every-none : (f : ℕ → Bool) → all f [] ≡ true
unfolding all
every-none f = refl
