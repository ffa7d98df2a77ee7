-- `octets::numbers::put_number` meets its contract. The loop writes from the last byte back, and keeps that the rest of the number is still due. Assumes nothing.
use Prim.Native.Nat.{◌-◌}
use Rattle.octets.proofs.numbers.put_number.Given as goal
use Rattle.octets.specs.Number.{bytes_of}
use Rattle.octets.specs.Splice.{splice}
use mathlib.Core.Path.{◌≡◌}

abbrev pub invariant-loop-i : goal.invariant-loop-i
invariant-loop-i l = splice l.initial.out l.at (bytes_of l.n l.v) ≡ splice l.out l.at (bytes_of (l.i - l.at) l.rest)
