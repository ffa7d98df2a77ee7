-- The loop takes the bytes of w: with those from j on due where it stands the machine answers as from the start. Assumes nothing.
use Prim.Native.Nat.{◌+◌, ◌≤◌}
use Rattle.json_text.proofs.literals.literal.Given as goal
use Rattle.json_text.specs.inner.Machine.{Stack, due, from}
use lib.ListN.{length, drop}
use mathlib.Core.Path.{◌≡◌}

abbrev pub invariant-loop-j : goal.invariant-loop-j
invariant-loop-j l = (l.at + l.j ≤ length l.s) × ((k : Stack) → from l.s l.at (due l.w) k ≡ from l.s (l.at + l.j) (due (drop l.j l.w)) k)
