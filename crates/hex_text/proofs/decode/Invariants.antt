-- The first bytes are decoded already. Assumes nothing.
use Rattle.hex_text.proofs.decode.Given as goal
use Rattle.hex_text.specs.Digits.{decoded}
use Rattle.octets.specs.Splice.{written}
use lib.ListN.{length, take}
use mathlib.Core.Path.{◌≡◌}

abbrev pub invariant-loop-i : goal.invariant-loop-i
invariant-loop-i l = (length l.out ≡ length l.initial.out) × (l.out ≡ written l.initial.out (take l.i (decoded l.s)))
