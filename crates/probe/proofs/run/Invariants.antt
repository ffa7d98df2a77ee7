-- Each turn takes the run on; the measure is the number of turns that are left. Assumes nothing.
use Prim.Native.Nat.{◌≤◌}
use Rattle.lines.specs.inner.Running.{Reached}
use Rattle.message.specs.Reading.{ample}
use Rattle.probe.proofs.run.Given as goal
use Rattle.probe.specs.Commands.{line_done}
use Rattle.probe.specs.Effect.{holding}
use Rattle.table.specs.Blank.{blank_of}
use lib.ListN.{drop, take}
use mathlib.Core.Bool.{true}
use mathlib.Core.Path.{◌≡◌}

abbrev pub invariant-loop-s : goal.invariant-loop-s
invariant-loop-s l =
    Reached line_done 170001 (holding ample (blank_of 255)) (holding l.s.ceiling (take l.s.size l.held)) (take l.s.len l.line) (drop l.s.from (take l.s.n l.buf))
    × (l.s.size ≤ 65536)
    × (l.s.len ≤ 170001)
    × (l.s.from ≤ l.s.n)
    × (l.s.n ≤ 16384)
    × (l.s.ended ≡ true → l.s.n ≡ 0)

abbrev pub decreases-loop-s : goal.decreases-loop-s
decreases-loop-s l = l.turns
