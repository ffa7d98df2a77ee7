-- `values::values::spelling_of` meets its contract. By its definition and what the callees ensure. Assumes nothing.
use Rattle.values.proofs.values.spelling_of.Goals as goal
use Rattle.values.specs.Value.{spelling_of}

pub returns : goal.returns
unfolding spelling_of
returns c = cc
