-- The loop takes hex digits: with those after n due where it stands the machine answers as from the start with four due. Assumes nothing.
use Prim.Native.Nat.{◌+◌, ◌-◌, ◌≤◌}
use Rattle.json_text.proofs.strings.four_hex.Given as goal
use Rattle.json_text.specs.inner.Machine.{Stack, Role, hexes, from}
use lib.ListN.{length}
use mathlib.Core.Path.{◌≡◌}

abbrev pub invariant-loop-n : goal.invariant-loop-n
invariant-loop-n l = (l.at + l.n ≤ length l.s) × ((w : Role) (k : Stack) → from l.s l.at (hexes w 4) k ≡ from l.s (l.at + l.n) (hexes w (4 - l.n)) k)
