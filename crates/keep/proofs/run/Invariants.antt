-- Each turn takes the run on; the measure is the number of turns that are left. Assumes nothing.
use Prim.Native.Nat.{◌≤◌}
use Rattle.keep.proofs.run.Given as goal
use Rattle.keep.specs.Log.{line_done}
use Rattle.lines.specs.inner.Running.{Reached}
use Rattle.table.specs.Blank.{blank_of}
use Rattle.table.specs.WellFormed.{well_formed}
use lib.ListN.{drop, take}
use mathlib.Core.Bool.{true}
use mathlib.Core.Path.{◌≡◌}

abbrev pub invariant-loop-s : goal.invariant-loop-s
invariant-loop-s l =
    Reached line_done 32790 (blank_of 255) l.table (take l.s.len l.line) (drop l.s.from (take l.s.n l.buf))
    × (well_formed l.table ≡ true)
    × (l.s.len ≤ 32790)
    × (l.s.from ≤ l.s.n)
    × (l.s.n ≤ 65536)
    × (l.s.ended ≡ true → l.s.n ≡ 0)

abbrev pub decreases-loop-s : goal.decreases-loop-s
decreases-loop-s l = l.turns
