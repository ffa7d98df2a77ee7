-- `table::texts::all_zero` meets its contract. The loop's invariant: the answer for the bytes passed. Assumes nothing.
use Rattle.table.proofs.texts.all_zero.Given as goal
use Rattle.table.specs.WellFormed.{zeros}
use lib.ListN.{take}
use mathlib.Core.Path.{◌≡◌}

abbrev pub invariant-loop-b : goal.invariant-loop-b
invariant-loop-b l = l.clean ≡ zeros (take l.b-index l.s)
