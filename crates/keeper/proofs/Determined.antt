-- Each public contract determines its answer and the table after it: two results that it allows are equal. Assumes nothing.
use Rattle.answers.specs.Answer.{Answer}
use Prim.Native.Nat.{ℕ}
use Rattle.keeper.specs.Keeping.{Step, on_message, on_tick}
use mathlib.Core.List.{List}
use mathlib.Core.Path.{◌≡◌, sym, ◌∙◌}

-- what a contract allows, where it cites the step s
abbrev pub Allowed : Step → Answer → List ℕ → Type 0
Allowed s a t = (a ≡ s.answer) × (t ≡ s.table)

determined : (s : Step) {a b : Answer} {t u : List ℕ} → Allowed s a t → Allowed s b u → (a ≡ b) × (t ≡ u)
determined s p q = (p.0 ∙ sym q.0, p.1 ∙ sym q.1)

pub message-determined : (c : ℕ) (t : List ℕ) (now : ℕ) (s : List ℕ) {a b : Answer} {u v : List ℕ} → Allowed (on_message c t now s) a u → Allowed (on_message c t now s) b v
    → (a ≡ b) × (u ≡ v)
message-determined c t now s p q = determined (on_message c t now s) p q

pub tick-determined : (t : List ℕ) (now : ℕ) (id : List ℕ) {a b : Answer} {u v : List ℕ} → Allowed (on_tick t now id) a u → Allowed (on_tick t now id) b v
    → (a ≡ b) × (u ≡ v)
tick-determined t now id p q = determined (on_tick t now id) p q
