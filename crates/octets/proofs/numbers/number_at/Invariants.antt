-- `octets::numbers::number_at` meets its contract. The loop keeps the number of the bytes passed. Assumes nothing.
use Prim.Native.Nat.{◌<◌}
use Rattle.octets.proofs.NumberLaws.{capacity}
use Rattle.octets.proofs.numbers.number_at.Given as goal
use Rattle.octets.specs.Number.{big_endian}
use lib.ListN.{take}
use mathlib.Core.Path.{◌≡◌}

abbrev pub invariant-loop-b : goal.invariant-loop-b
invariant-loop-b l = (l.v ≡ big_endian (take l.b-index l.b-items)) × (l.v < capacity l.b-index)
