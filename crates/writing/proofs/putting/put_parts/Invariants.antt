-- Each loop has come to the parts before `part`: their length, and then they at the front of the output. Assumes nothing.
use Prim.Native.Nat.{◌≤◌}
use Rattle.octets.proofs.Chain.{At}
use Rattle.writing.proofs.putting.put_parts.Given as goal
use Rattle.writing.specs.Parts.{joined}
use lib.ListN.{length, take}
use mathlib.Core.Path.{◌≡◌}

abbrev pub invariant-loop-part : goal.invariant-loop-part
invariant-loop-part l = (l.total ≡ length (joined (take l.part-index l.parts))) × (l.total ≤ 32768)

abbrev pub invariant-loop-part-2 : goal.invariant-loop-part-2
invariant-loop-part-2 l = At l.fn.out (joined (take l.part-index l.parts)) l.out l.at
