-- `table::soundness::are_records_sound` meets its contract. The loop's invariant: each record passed is well-formed by itself. Assumes nothing.
use Prim.Native.Nat.{ℕ, ◌<◌}
use Rattle.table.proofs.soundness.are_records_sound.Given as goal
use Rattle.table.specs.Image.{record_at}
use Rattle.table.specs.WellFormed.{record_sound}
use mathlib.Core.Bool.{true}
use mathlib.Core.Path.{◌≡◌}

abbrev pub invariant-loop-k : goal.invariant-loop-k
invariant-loop-k at = (l : ℕ) → l < at.k → record_sound (record_at at.t l) ≡ true
