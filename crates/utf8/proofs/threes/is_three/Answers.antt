-- `utf8::threes::is_three` meets its contract. One law of `Rows` for each row. Assumes nothing.
use Prim.Native.Nat.{ℕ, ◌+◌, ◌≤◌}
use Rattle.utf8.proofs.Rows.{three, three-E0, three-ED, three-char}
use Rattle.utf8.proofs.threes.is_three.Goals as goal
use Rattle.utf8.proofs.threes.is_three.Goals.{then-is_row, else-is_row, then-is_row-2, else-is_row-2}
use Rattle.utf8.specs.Rfc3629.{◌to◌, char_at, goes_on, tail}
use lib.ListN.{drop, length}
use mathlib.Core.Bool.{Bool, true}
use mathlib.Core.List.{List, [], ◌∷◌}
use mathlib.Core.Path.{◌≡◌}
use native.Mathlib.Omega.{arith}

module _ (s : List ℕ) (at : ℕ) (h : at + 3 ≤ length s) where
  kana : {t : Bool} → t ≡ goes_on ((0xE1 to 0xEC) ∷ tail ∷ tail ∷ []) (drop at s) → t ≡ true → 3 ≡ char_at (drop at s)
  kana e t = three-char 0xE1 0xEC 0x80 0xBF s at h (λ b f g. three b (omega (arith, f)) (omega (arith, g)) (λ e. omega (arith, f, e)) (λ e. omega (arith, g, e))) e t

  wide : {t : Bool} → t ≡ goes_on ((0xEE to 0xEF) ∷ tail ∷ tail ∷ []) (drop at s) → t ≡ true → 3 ≡ char_at (drop at s)
  wide e t = three-char 0xEE 0xEF 0x80 0xBF s at h (λ b f g. three b (omega (arith, f)) (omega (arith, g)) (λ e. omega (arith, f, e)) (λ e. omega (arith, f, e))) e t

  first : {t : Bool} → t ≡ goes_on ((0xE0 to 0xE0) ∷ (0xA0 to 0xBF) ∷ tail ∷ []) (drop at s) → t ≡ true → 3 ≡ char_at (drop at s)
  first e t = three-char 0xE0 0xE0 0xA0 0xBF s at h (λ b f g. three-E0 b (omega (arith, f, g))) e t

  before_surrogates : {t : Bool} → t ≡ goes_on ((0xED to 0xED) ∷ (0x80 to 0x9F) ∷ tail ∷ []) (drop at s) → t ≡ true → 3 ≡ char_at (drop at s)
  before_surrogates e t = three-char 0xED 0xED 0x80 0x9F s at h (λ b f g. three-ED b (omega (arith, f, g))) e t

pub returns-then-is_row-3 : goal.returns-then-is_row-3
returns-then-is_row-3 c = λ t.
    let x = c.args in
    let s = x.s.now in
    elim c.if-is_row-2.branch [
      | then-is_row-2 w ↦ elim c.if-is_row.branch [
        | then-is_row v ↦ kana s x.at (omega arith) c.is_row.ensures v.if-is_row.true
        | else-is_row v ↦ wide s x.at (omega arith) v.is_row-else-is_row.ensures (cc)
      ]
      | else-is_row-2 w ↦ first s x.at (omega arith) w.is_row-else-is_row-2.ensures (cc)
    ]

pub returns-else-is_row-3 : goal.returns-else-is_row-3
returns-else-is_row-3 c = λ t. let x = c.args in before_surrogates x.s.now x.at (omega arith) c.is_row-else-is_row-3.ensures t
