-- `statuses::is_listed` meets its contract: the definition opened, and the tests put in. Assumes nothing.
use Rattle.rules.proofs.statuses.is_listed.Goals as goal
use Rattle.rules.specs.Status.{listed}
use lib.Dec.{ltb}
use mathlib.Core.Path.{ap}

pub returns : goal.returns
unfolding listed
returns c = ap (λ k. ltb k 14) c.index_in.ensures
