-- Two results that a contract allows are equal. Assumes nothing.
use Prim.Native.Nat.{ℕ}
use Rattle.lines.specs.inner.Splitting.{buffer_after, next_line}
use Rattle.lines.specs.Program.{after_writing, line_of, wrote_at}
use Rattle.lines.specs.declared.answering.NoRoom.{NoRoom}
use Rattle.std.proofs.Common.{Result}
use Rattle.lines.specs.declared.reading.Line.{Line}
use Rattle.lines.specs.declared.splitting.Next.{Next}
use mathlib.Core.List.{List}
use mathlib.Core.Path.{◌≡◌, sym, ◌∙◌}

pub read-determined : (s : List ℕ) {a b : Line} → a ≡ line_of s → b ≡ line_of s → a ≡ b
read-determined s p q = p ∙ sym q

-- of `write_answer` and `write_bad`, for the line w that each writes
pub write-determined : (o : List ℕ) (at : ℕ) (w : List ℕ) {m n : Result ℕ NoRoom} {a b : List ℕ} → (m ≡ wrote_at o at w) × (a ≡ after_writing o at w)
    → (n ≡ wrote_at o at w) × (b ≡ after_writing o at w) → (m ≡ n) × (a ≡ b)
write-determined o at w p q = (p.0 ∙ sym q.0, p.1 ∙ sym q.1)

pub next_line_determined : (o : List ℕ) (len : ℕ) (s : List ℕ) (from : ℕ) {m n : Next} {a b : List ℕ} → (m ≡ next_line o len s from) × (a ≡ buffer_after o len s from)
    → (n ≡ next_line o len s from) × (b ≡ buffer_after o len s from) → (m ≡ n) × (a ≡ b)
next_line_determined o len s from p q = (p.0 ∙ sym q.0, p.1 ∙ sym q.1)
