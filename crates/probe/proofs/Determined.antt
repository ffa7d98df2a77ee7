-- Two results that the contract of `answer` allows are equal. Assumes nothing.
use Prim.Native.Nat.{ℕ, ◌≤◌}
use Rattle.probe.specs.Commands.{line_done}
use Rattle.probe.specs.Effect.{Held, holding}
use Rattle.probe.specs.inner.Turned.{Finishes}
use lib.ListN.{length, take}
use lib.Seq.{length-take-le}
use mathlib.Core.List.{List}
use mathlib.Core.Path.{◌≡◌, ap, sym, ◌∙◌}

-- Two answers to the line l, where x is held and o is the output buffer: n bytes of text in o', a ceiling, and a table in the first bytes of h.
module _ (x : Held) (l o : List ℕ) {n m : ℕ} {o' o'' : List ℕ} {c d j k : ℕ} {h g : List ℕ} (a : Finishes (line_done x l) o n o' c j h) (b : Finishes (line_done x l) o m o'' d k g)
  where
    pub text-determined : (n ≡ m) × (o' ≡ o'')
    text-determined = (a.text.0 ∙ sym b.text.0, a.text.1 ∙ sym b.text.1)

    pub held-determined : holding c (take j h) ≡ holding d (take k g)
    held-determined = a.held ∙ sym b.held

    -- with the table its size, in buffers that have room for it
    pub size-determined : j ≤ length h → k ≤ length g → j ≡ k
    size-determined p q = sym (length-take-le j h p) ∙ ap (λ (y : Held). length y.table) held-determined ∙ length-take-le k g q
