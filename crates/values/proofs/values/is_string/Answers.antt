-- `values::values::is_string` meets its contract. By its definition and what the callees ensure. Assumes nothing.
use Rattle.values.proofs.values.is_string.Goals as goal
use Rattle.values.specs.Value.{is_string}

pub returns : goal.returns
unfolding is_string
returns c = cc
