-- The buffer keeps its length, and a failed read takes nothing; the measure is the number of tries that are left. Assumes nothing.
use Rattle.std.proofs.Common.{◌≡◌, length}
use Rattle.std.specs.Io.KnownBytes.{Keeps}
use Rattle.streams.proofs.read.Given as goal

abbrev pub invariant-loop-n : goal.invariant-loop-n
invariant-loop-n g l = (length l.buf ≡ length l.initial.buf) × Keeps (g.R.Read.remaining l.initial.input) (g.R.Read.remaining l.input)

abbrev pub decreases-loop-n : goal.decreases-loop-n
decreases-loop-n g l = l.tries
