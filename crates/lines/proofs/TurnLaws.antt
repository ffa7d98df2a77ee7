-- The turns of a run in a program's memory: the open line stands at the front of a buffer, the rest of the piece behind a place of another,
-- and what is handed to `write` at the front of a third. One law for each way out of the functions that make a turn. Assumes nothing.
use Prim.Native.Nat.{ℕ, ◌≤◌, ◌<◌}
use Rattle.lines.proofs.Cutting.{short}
use Rattle.lines.specs.Input.{last_line}
use Rattle.lines.specs.inner.Running.Turns.{begun}
use Rattle.lines.specs.inner.Running.Stepped.{answers, reads}
use Rattle.lines.specs.Log.{Effect, log_held, log_text}
use Rattle.lines.specs.inner.Running.{Works, Reached, Stepped}
use lib.ListN.{drop, drop_of_length-le, length, take}
use lib.Seq.{length-take-le}
use mathlib.Core.Bool.{false, true}
use mathlib.Core.List.{List, [], ◌∷◌, append-nil}
use mathlib.Core.Path.{◌≡◌, refl, sym, ◌∙◌}
use native.Mathlib.Omega.{arith}

pub never : {A : Type 0} → false ≡ true → A
never h = let z : ◌≡◌ {A = ℕ} 0 1 = cc in absurd (omega arith)

-- an open line that is not empty is a line
some_line : (k : List ℕ) → 0 < length k → last_line k ≡ k ∷ []
unfolding last_line
some_line [] h = absurd (omega arith)
some_line (x ∷ k) h = refl

module _ {S : Type 0} (done : S → List ℕ → Effect S) (cap : ℕ) where
  -- nothing is read and nothing handed on
  pub begins : (t₀ : S) (line buf : List ℕ) {t : S} → t ≡ t₀ → Reached done cap t₀ t (take 0 line) (drop 0 (take 0 buf))
  begins t₀ line buf e = rw e (record { input = []; handed = []; run = begun })

  -- the piece's end was reached, and the next piece p read
  pub turn-reads : (t : S) (line buf out : List ℕ) (len from n : ℕ) {m end : ℕ} {p : List ℕ} → n ≤ from → m ≡ len → end ≡ 0
      → Stepped done cap t (take len line) (drop from (take n buf)) t (take m line) p (take end out)
  turn-reads t line buf out len from n h l e =
      let none : drop from (take n buf) ≡ [] = drop_of_length-le (take n buf) {i = from} (let k = short n buf in omega arith) in
      rw (none, l, e) reads

  -- lines of the piece were answered
  pub turn-answers : (buf : List ℕ) (n f : ℕ) {m : ℕ} {t : S} {k s : List ℕ} {t' : S} {k' x : List ℕ} → m ≡ n → Works done cap t k s t' k' (drop f (take n buf)) x
      → Stepped done cap t k s t' k' (drop f (take m buf)) x
  turn-answers buf n f e g = rw e (answers g)

-- the last line: none where nothing is kept of an open line, and else what is kept of it
module _ {S : Type 0} (done : S → List ℕ → Effect S) (t : S) (line : List ℕ) (len : ℕ) where
  pub last_none : (out : List ℕ) → len ≡ 0 → (take 0 out ≡ log_text done t (last_line (take len line))) × (t ≡ log_held done t (last_line (take len line)))
  unfolding log_text log_held last_line
  last_none out e = rw e (refl, refl)

  pub last_some : {w : List ℕ} {t' : S} → 0 < len → len ≤ length line → w ≡ (done t (take len line)).text → t' ≡ (done t (take len line)).held
      → (w ≡ log_text done t (last_line (take len line))) × (t' ≡ log_held done t (last_line (take len line)))
  unfolding log_text log_held
  last_some h a we te =
      let k = some_line (take len line) (rw (length-take-le len line a) h) in
      rw k (we ∙ sym (append-nil _), te)
