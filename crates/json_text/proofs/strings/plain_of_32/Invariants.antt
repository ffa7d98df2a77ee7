-- The loop keeps the least rank of the bytes seen. Assumes nothing.
use Prim.Native.Nat.{◌-◌, ◌≤◌}
use Rattle.json_text.proofs.RunLaws.{Seen}
use Rattle.json_text.proofs.strings.plain_of_32.Given as goal

abbrev pub invariant-loop-k : goal.invariant-loop-k
invariant-loop-k l = (l.k ≤ 32) × Seen l.s l.at l.k l.m

abbrev pub decreases-loop-k : goal.decreases-loop-k
decreases-loop-k l = 32 - l.k
