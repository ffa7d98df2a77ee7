-- `table::searching::find` meets its contract. The loop's invariant: no record passed is the call's. Assumes nothing.
use Prim.Native.Nat.{ℕ, ◌<◌}
use Rattle.table.proofs.searching.find.Given as goal
use Rattle.table.specs.Image.{record_at}
use Rattle.table.specs.Record.{is_named}
use mathlib.Core.Bool.{false}
use mathlib.Core.Path.{◌≡◌}

abbrev pub invariant-loop-k : goal.invariant-loop-k
invariant-loop-k at = (l : ℕ) → l < at.k → is_named at.id (record_at at.t l) ≡ false
