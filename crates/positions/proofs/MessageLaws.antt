-- The positions of a message by its kind, one law for each way that the code goes. Assumes nothing.
use Prim.Native.Nat.{ℕ, zero, suc}
use Rattle.json_text.specs.Places.{bytes}
use Rattle.message.specs.Placing.{places_of}
use Rattle.message.specs.declared.facts.Message.{Message}
use Rattle.positions.specs.Objects.{home_in, live_in, locations_in}
use Rattle.positions.specs.Positions.{field_bytes, home_of, is_live, is_request, positions_of}
use Rattle.positions.specs.declared.objects.Position.{Position}
use Rattle.std.specs.Prelude.{None, slice_get}
use lib.ListN.{get_or}
use mathlib.Core.Bool.{true, false}
use mathlib.Core.List.{List, [], ◌∷◌}
use mathlib.Core.Path.{◌≡◌, ap, refl, ◌∙◌}

-- the own bytes of a field, by the places that are known
pub field-is : (s : List ℕ) (n : ℕ) {t v : List ℕ} → t ≡ places_of s → v ≡ bytes s (get_or t n 0) → v ≡ field_bytes s n
field-is s n e f = f ∙ ap (λ (l : List ℕ). bytes s (get_or l n 0)) e

module _ (s : List ℕ) (m : Message) where
  pub of-invite : is_request 1 m ≡ true → positions_of s m ≡ locations_in (field_bytes s 21)
  unfolding positions_of
  of-invite e = rw e

  module _ (other : is_request 1 m ≡ false) where
    pub of-live : is_live s m ≡ true → positions_of s m ≡ live_in (field_bytes s 10) ∷ []
    unfolding positions_of
    of-live e = rw (other, e)

    pub of-none : is_live s m ≡ false → positions_of s m ≡ []
    unfolding positions_of
    of-none e = rw (other, e)

    pub homeless : None ≡ home_of s m
    unfolding home_of
    homeless = rw other

  pub at-home : is_request 1 m ≡ true → home_in (field_bytes s 23) ≡ home_of s m
  unfolding home_of
  at-home e = rw e

-- one alone
pub one-alone : (x : Position) (k : ℕ) → (k ≡ 0 → ⊥) → None ≡ slice_get (x ∷ []) k
one-alone x zero ne = absurd (ne refl)
one-alone x (suc k) ne = refl
