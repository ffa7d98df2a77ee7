-- What `Decoded::of` keeps is the text, as far as there is room. Assumes nothing.
use Prim.Native.Nat.{ℕ, min}
use Rattle.escapes.proofs.PlainLaws.{plain-text}
use Rattle.escapes.specs.Rfc7159.{text}
use Rattle.escapes.specs.Text.{escaped, over}
use Rattle.octets.specs.Splice.{written}
use Rattle.std.proofs.Math.Seq.{take-append_seam}
use Rattle.std.proofs.lemmas.List.{length-replicate, take_min}
use lib.ListN.{length, replicate, take}
use lib.Seq.{take-nil}
use mathlib.Core.Bool.{false}
use mathlib.Core.List.{List, [], ◌∷◌, ◌++◌}
use mathlib.Core.Path.{◌≡◌, refl, ap, ◌∙◌}

take-over : (o w : List ℕ) → take (length w) (over o w) ≡ take (length o) w
unfolding over written
take-over [] w = take-nil (length w)
take-over (x ∷ o) [] = refl
take-over (x ∷ o) (y ∷ w) = ap (λ (l : List ℕ). y ∷ l) (take-over o w)

-- decoded over n bytes
pub decoded-kept : (n : ℕ) (w : List ℕ) {k : ℕ} {o : List ℕ} → (k ≡ length w) × (o ≡ over (replicate n 0) w) → take k o ≡ take n w
decoded-kept n w e = rw (e.0, e.1) (take-over (replicate n 0) w ∙ ap (λ (k : ℕ). take k w) (length-replicate n 0))

-- copied, as there is no escape
pub own-kept : (n : ℕ) (s r : List ℕ) {m : ℕ} {p : List ℕ} → escaped s ≡ false → m ≡ min n (length s) → p ≡ take m s → take (length (take m s)) (p ++ r) ≡ take n (text s)
own-kept n s r {m} e f g = rw (g, take-append_seam (take m s) r, f, take_min n s, plain-text s e)
