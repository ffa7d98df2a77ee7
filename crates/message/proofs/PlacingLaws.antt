-- The places of an accepted message's known fields: it has its shape, and no known name twice, so that what is gathered is all of them. Assumes nothing.
use Prim.Native.Nat.{ℕ}
use Rattle.fields.specs.Known.{empty, noted}
use Rattle.json_text.specs.Places.{members}
use Rattle.message.proofs.AcceptedRows.{read-shaped}
use Rattle.message.specs.Placing.{places_of}
use Rattle.message.specs.Reading.{reading}
use Rattle.message.specs.Shape.{object_of, tag_of}
use Rattle.message.specs.declared.facts.Message.{Message}
use Rattle.message.specs.declared.refusals.Refusal.{Refusal}
use Rattle.message.specs.inner.Shaping.{gathered}
use Rattle.rules.specs.Names.{fields}
use Rattle.std.specs.Prelude.{Ok, Result}
use Rattle.std.specs.Result.{result_unwrap_or}
use mathlib.Core.List.{List}
use mathlib.Core.Path.{◌≡◌, ap, refl, ◌∙◌}

module _ (c : ℕ) (s : List ℕ) (m : Message) (e : reading c s ≡ Ok m) where
  pub no-tag : {A : Type 0} → tag_of s ≡ 0 → A
  no-tag z = absurd ((read-shaped c s m e).0 z)

  -- what is gathered of the object
  pub all-gathered : {o : ℕ} {r : Result (List ℕ) Refusal} (d : List ℕ) → o ≡ object_of s → r ≡ gathered s o → result_unwrap_or r d ≡ places_of s
  unfolding gathered places_of
  all-gathered {o} {r} d i g =
      let z : gathered s (object_of s) ≡ Ok (noted fields s empty (members s (object_of s))) = rw (read-shaped c s m e).1 refl in
      ap (λ (x : Result (List ℕ) Refusal). result_unwrap_or x d) (g ∙ ap (gathered s) i ∙ z)
