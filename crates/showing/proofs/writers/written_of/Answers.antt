-- By the case of the answer. Assumes nothing.
use Rattle.showing.proofs.writers.written_of.Goals as goal
use Rattle.showing.specs.Writers.{written_of}
use Rattle.std.proofs.Common.{arith}

pub returns : goal.returns
unfolding written_of
returns c = grind arith
