-- The loop keeps that the pairs of the first k positions are written. Assumes nothing.
use Prim.Native.Nat.{◌+◌, ◌*◌, ◌≤◌}
use Rattle.octets.proofs.Chain.{At}
use Rattle.octets.specs.Ascii.{ascii}
use Rattle.positions.specs.Positions.{positions_of}
use Rattle.showing.proofs.located.put_located.Given as goal
use Rattle.showing.specs.Located.{pairs_text}
use lib.ListN.{take}
use mathlib.Core.List.{◌++◌}

abbrev pub invariant-loop-k : goal.invariant-loop-k
invariant-loop-k l = record {
  here : At l.fn.out (ascii "ok" ++ pairs_text (take l.k (positions_of l.s l.a.message))) l.out l.end;
  low : l.end ≤ 2 + 24 * l.k;
}
