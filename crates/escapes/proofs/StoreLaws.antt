-- Octets stored one behind the other, as far as there is room. Assumes nothing.
use Prim.Native.Nat.{ℕ, suc, ◌+◌, ◌/◌, ◌≤◌, ◌<◌}
use Rattle.escapes.proofs.EncodingLaws.{one, two, three, four}
use Rattle.escapes.specs.Encoding.{encoded, low}
use Rattle.escapes.specs.Text.{over}
use Rattle.octets.specs.Splice.{written}
use lib.ListN.{length, set, length-append}
use lib.Seq.{sets, append_snoc}
use mathlib.Core.List.{List, [], ◌∷◌, ◌++◌, append-nil}
use mathlib.Core.Path.{◌≡◌, refl, sym, ap, ◌∙◌}
use native.Mathlib.Numerals.{add-one}
use native.Mathlib.Omega.{arith}

-- one octet and then others
pub behind : (o : List ℕ) {o₁ o₂ : List ℕ} (at : ℕ) {p r : ℕ} (a : ℕ) (w : List ℕ) (n : ℕ) →
    (p ≡ at + 1) × (o₁ ≡ sets o at (a ∷ [])) → (r ≡ p + n) × (o₂ ≡ sets o₁ p w) → (r ≡ at + suc n) × (o₂ ≡ sets o at (a ∷ w))
behind o {o₁} {o₂} at {p} {r} a w n e f = (
  (let g = e.0 in let h = f.0 in omega arith),
  f.1 ∙ ap (λ (l : List ℕ). sets l p w) e.1 ∙ ap (λ (k : ℕ). sets (set o at a) k w) (e.0 ∙ add-one at),
)

-- the octets w are stored at a place of o, which is now o', and r is the index behind them
abbrev pub Stored : List ℕ → List ℕ → ℕ → ℕ → List ℕ → Type 0
Stored o o' at r w = (r ≡ at + length w) × (o' ≡ sets o at w)

-- the rows of the table
module _ (o : List ℕ) {o' : List ℕ} (at : ℕ) {r : ℕ} (c : ℕ) where
  pub stored_one : c < 0x80 → Stored o o' at r (c ∷ []) → Stored o o' at r (encoded c)
  stored_one h f = rw (one c h) f

  pub stored-two : (x : ℕ) → 0x80 ≤ c → c < 0x800 → x ≡ low c → Stored o o' at r ((0xC0 + c / 64) ∷ x ∷ []) → Stored o o' at r (encoded c)
  stored-two x h k e f = rw (two c h k) (rw e at f)

  pub stored-three : (x y : ℕ) → 0x800 ≤ c → c < 0x10000 → x ≡ low (c / 64) → y ≡ low c → Stored o o' at r ((0xE0 + c / 4096) ∷ x ∷ y ∷ []) → Stored o o' at r (encoded c)
  stored-three x y h k e g f = rw (three c h k) (rw (e, g) at f)

  pub stored-four : (x y z : ℕ) → 0x10000 ≤ c → x ≡ low (c / 4096) → y ≡ low (c / 64) → z ≡ low c →
      Stored o o' at r ((0xF0 + c / 262144) ∷ x ∷ y ∷ z ∷ []) → Stored o o' at r (encoded c)
  stored-four x y z h e g i f = rw (four c h) (rw (e, g, i) at f)

-- A text over the front of a buffer, and more of it.

pub over-nil : (o : List ℕ) → over o [] ≡ o
unfolding over written
over-nil [] = refl
over-nil (x ∷ o) = refl

over-one : (o w : List ℕ) (b : ℕ) → set (over o w) (length w) b ≡ over o (w ++ (b ∷ []))
unfolding over written
over-one [] [] b = refl
over-one [] (y ∷ w) b = refl
over-one (x ∷ o) [] b = ap (λ (l : List ℕ). b ∷ l) (sym (over-nil o))
over-one (x ∷ o) (y ∷ w) b = ap (λ (l : List ℕ). y ∷ l) (over-one o w b)

pub over-more : (o w v : List ℕ) → sets (over o w) (length w) v ≡ over o (w ++ v)
over-more o w [] = ap (over o) (sym (append-nil w))
over-more o w (b ∷ v) =
    ap (λ (l : List ℕ). sets l (suc (length w)) v) (over-one o w b)
    ∙ ap (λ (n : ℕ). sets (over o (w ++ (b ∷ []))) n v) (sym (length-append w (b ∷ []) ∙ add-one (length w)))
    ∙ over-more o (w ++ (b ∷ [])) v
    ∙ ap (over o) (append_snoc w b v)

pub length_over : (o w : List ℕ) → length (over o w) ≡ length o
unfolding over written
length_over [] w = refl
length_over (x ∷ o) [] = refl
length_over (x ∷ o) (y ∷ w) = ap suc (length_over o w)
