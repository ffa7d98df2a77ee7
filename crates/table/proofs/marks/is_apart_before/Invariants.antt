-- `table::marks::is_apart_before` meets its contract. The loop's invariant: record k is apart from each record passed. Assumes nothing.
use Prim.Native.Nat.{ℕ, ◌<◌}
use Rattle.table.proofs.marks.is_apart_before.Given as goal
use Rattle.table.specs.Image.{record_at}
use Rattle.table.specs.WellFormed.{apart}
use mathlib.Core.Bool.{true}
use mathlib.Core.Path.{◌≡◌}

abbrev pub invariant-loop-l : goal.invariant-loop-l
invariant-loop-l l = (j : ℕ) → j < l.l → apart (record_at l.t l.k) (record_at l.t j) ≡ true
