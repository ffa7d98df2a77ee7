-- `table::texts::same_at_once` meets its contract. The loop's invariant: the answer for the bytes passed. Assumes nothing.
use Rattle.octets.specs.Text.{same}
use Rattle.table.proofs.texts.same_at_once.Given as goal
use lib.ListN.{take}
use mathlib.Core.Path.{◌≡◌}

abbrev pub invariant-loop-i : goal.invariant-loop-i
invariant-loop-i l = l.alike ≡ same (take l.i l.a) (take l.i l.b)
