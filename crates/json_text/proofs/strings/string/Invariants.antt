-- Each turn passes a run of plain bytes and one escape; the machine answers there as from the start. Assumes nothing.
use Prim.Native.Nat.{◌-◌, ◌≤◌}
use Rattle.json_text.proofs.strings.string.Given as goal
use Rattle.json_text.specs.inner.Machine.{Stack, Role, str, from}
use lib.ListN.{length}
use mathlib.Core.Path.{◌≡◌}

abbrev pub invariant-loop-at : goal.invariant-loop-at
invariant-loop-at l = (l.at ≤ l.i) × (l.i ≤ length l.s) × ((w : Role) (k : Stack) → from l.s l.at (str w) k ≡ from l.s l.i (str w) k)

abbrev pub decreases-loop-at : goal.decreases-loop-at
decreases-loop-at l = length l.s - l.i
