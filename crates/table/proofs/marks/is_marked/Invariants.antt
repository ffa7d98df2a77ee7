-- `table::marks::is_marked` meets its contract. The loop's invariant: the answer for the marks passed. Assumes nothing.
use Rattle.table.proofs.marks.is_marked.Given as goal
use Rattle.table.specs.inner.Mark.{marked}
use mathlib.Core.Path.{◌≡◌}

abbrev pub invariant-loop-i : goal.invariant-loop-i
invariant-loop-i l = l.hit ≡ marked l.marks l.i l.m
