-- `table::marks::is_distinct` meets its contract. The loop's invariant: each record passed is apart from those before it, and its mark is kept. Assumes nothing.
use Prim.Native.Nat.{ℕ, ◌<◌}
use Rattle.table.proofs.marks.is_distinct.Given as goal
use Rattle.table.specs.WellFormed.{apart_before}
use Rattle.table.specs.inner.Mark.{Marks}
use lib.ListN.{length}
use mathlib.Core.Bool.{true}
use mathlib.Core.Path.{◌≡◌}

abbrev pub invariant-loop-k : goal.invariant-loop-k
invariant-loop-k at =
    (length at.marks ≡ 255) × Marks at.t at.marks at.k × ((l : ℕ) → l < at.k → apart_before at.t l ≡ true)
