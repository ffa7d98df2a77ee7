-- A repeat of one byte. Assumes nothing.
use Rattle.showing.proofs.writers.fill.Goals as goal
use Rattle.showing.specs.Writers.{filled}
use mathlib.Core.Path.{refl}

pub returns : goal.returns
unfolding filled
returns c = refl
