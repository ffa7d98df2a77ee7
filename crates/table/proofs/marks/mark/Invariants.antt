-- `table::marks::mark` meets its contract. The loop's invariant: the mark of the whole is the mark from here on. Assumes nothing.
use Prim.Native.Nat.{◌<◌}
use Rattle.table.proofs.marks.mark.Given as goal
use Rattle.table.specs.inner.Mark.{mark_from, mark_of}
use lib.ListN.{drop}
use mathlib.Core.Path.{◌≡◌}

abbrev pub invariant-loop-b : goal.invariant-loop-b
invariant-loop-b l = (l.v < 4294967296) × (mark_of l.s ≡ mark_from l.v (drop l.b-index l.s))
