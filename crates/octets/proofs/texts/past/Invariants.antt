-- `octets::texts::past` meets its contract. The loop keeps that all before passed. Assumes nothing.
use Rattle.octets.proofs.texts.past.Given as goal
use Prim.Native.Nat.{ℕ, ◌≤◌, ◌<◌}
use lib.ListN.{get_or}
use mathlib.Core.Bool.{true}

abbrev pub invariant-loop-i : goal.invariant-loop-i
invariant-loop-i g l = (k : ℕ) → l.at ≤ k → k < l.i → goal.F-post g l.test (get_or l.s k 0) true
