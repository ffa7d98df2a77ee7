-- The loop keeps that the work came from where it began with what stands in the output buffer; each line takes it on. Assumes nothing.
use Prim.Native.Nat.{◌+◌, ◌-◌, ◌*◌, ◌≤◌}
use Rattle.keep.proofs.pieces.work.Given as goal
use Rattle.keep.specs.Log.{line_done}
use Rattle.lines.specs.inner.Running.{Works}
use Rattle.table.specs.WellFormed.{well_formed}
use lib.ListN.{drop, length, take}
use mathlib.Core.Bool.{true}
use mathlib.Core.Path.{◌≡◌}

abbrev pub invariant-loop-out : goal.invariant-loop-out
invariant-loop-out l =
    Works line_done (length l.initial.line) l.initial.table (take l.len0 l.initial.line) (drop l.from0 l.s) l.table (take l.len l.line) (drop l.from l.s) (take l.at l.out)
    × (well_formed l.table ≡ true)
    × (length l.table ≡ length l.initial.table)
    × (length l.line ≡ length l.initial.line)
    × (length l.out ≡ length l.initial.out)
    × (l.at ≤ length l.out)
    × (l.len ≤ length l.line)
    × (l.from0 ≤ l.from)
    × (l.from ≤ length l.s)
    × (l.at + 64 * l.from0 ≤ 64 * l.from)

abbrev pub decreases-loop-out : goal.decreases-loop-out
decreases-loop-out l = length l.s - l.from
