-- One member's value changed, as frame says it (`swap_read`): names and all other values are as they were. Assumes nothing.
use Prim.Native.Nat.{ℕ, zero, suc}
use Rattle.frame.proofs.MessageShape.{swap_read}
use Rattle.message.proofs.PairLaws.{Read, found, value_in, doubled, Nth}
use Rattle.values.specs.Value.{word_spelled}
use borrow.Author.Tests.{ne_eqb}
use mathlib.Core.List.{List, [], ◌∷◌}
use mathlib.Core.Path.{◌≡◌, refl, sym, ◌∙◌}

module _ (ns : List (List ℕ)) (v : List ℕ) where
  pub swap_found : (k n : ℕ) (ps : List Read) → found ns k (swap_read n v ps) ≡ found ns k ps
  unfolding found
  swap_found k zero [] = refl
  swap_found k (suc n) [] = refl
  swap_found k zero (p ∷ ps) = refl
  swap_found k (suc n) (p ∷ ps) = rw (swap_found k n ps)

  pub swap_doubled : (n : ℕ) (ps : List Read) → doubled ns (swap_read n v ps) ≡ doubled ns ps
  unfolding doubled
  swap_doubled zero [] = refl
  swap_doubled (suc n) [] = refl
  swap_doubled zero (p ∷ ps) = refl
  swap_doubled (suc n) (p ∷ ps) = rw (swap_found (word_spelled ns p.0) n ps, swap_doubled n ps)

  pub swap_nth : (k m n : ℕ) (ps : List Read) → Nth ns k m ps → Nth ns k m (swap_read n v ps)
  swap_nth k m n [] h = absurd h
  swap_nth k zero zero (p ∷ ps) h = h
  swap_nth k zero (suc n) (p ∷ ps) h = h
  swap_nth k (suc m) zero (p ∷ ps) h = h
  swap_nth k (suc m) (suc n) (p ∷ ps) h = swap_nth k m n ps h

  pub swap_other : (k j n : ℕ) (ps : List Read) → Nth ns j n ps → (k ≡ j → ⊥) → value_in ns k (swap_read n v ps) ≡ value_in ns k ps
  unfolding value_in
  swap_other k j n [] h ne = absurd h
  swap_other k j zero (p ∷ ps) h ne = rw (ne_eqb (word_spelled ns p.0) k (λ e. ne (sym e ∙ h)))
  swap_other k j (suc n) (p ∷ ps) h ne = rw (swap_other k j n ps h ne)
