-- `octets::texts::find` meets its contract. The loop keeps that the byte is still to be found in the rest. Assumes nothing.
use Prim.Native.Nat.{◌≤◌, ◌+◌, ◌-◌}
use Rattle.octets.proofs.texts.find.Given as goal
use Rattle.octets.specs.Text.{before}
use lib.ListN.{length, drop}
use mathlib.Core.Path.{◌≡◌}

abbrev pub invariant-loop-i : goal.invariant-loop-i
invariant-loop-i l = (l.i ≤ length l.s) × (l.from + before l.b (drop l.from l.s) ≡ l.i + before l.b (drop l.i l.s))

abbrev pub decreases-loop-i : goal.decreases-loop-i
decreases-loop-i l = length l.s - l.i
