-- The digits of the first bytes stand there already. Assumes nothing.
use Prim.Native.Nat.{◌*◌}
use Rattle.hex_text.proofs.encode.Given as goal
use Rattle.hex_text.specs.Digits.{encoded}
use Rattle.octets.specs.Splice.{written}
use lib.ListN.{length, take}
use mathlib.Core.Path.{◌≡◌}

abbrev pub invariant-loop-i : goal.invariant-loop-i
invariant-loop-i l = (length l.out ≡ length l.initial.out) × (l.out ≡ written l.initial.out (take (2 * l.i) (encoded l.s)))
