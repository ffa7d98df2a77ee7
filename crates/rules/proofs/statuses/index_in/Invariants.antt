-- `statuses::index_in` meets its contract. The loop's invariant: the place from the start is i and the place from there. Assumes nothing.
use Prim.Native.Nat.{◌+◌, ◌-◌, ◌≤◌}
use Rattle.rules.proofs.statuses.index_in.Given as goal
use Rattle.rules.specs.Status.{codes, index_in}
use lib.ListN.{drop}
use mathlib.Core.Path.{◌≡◌}

abbrev pub invariant-loop-i : goal.invariant-loop-i
invariant-loop-i l = (l.i ≤ 14) × (index_in codes l.code ≡ l.i + index_in (drop l.i codes) l.code)

abbrev pub decreases-loop-i : goal.decreases-loop-i
decreases-loop-i l = 14 - l.i
