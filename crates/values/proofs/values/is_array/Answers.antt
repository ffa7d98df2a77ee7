-- `values::values::is_array` meets its contract. By its definition and what the callees ensure. Assumes nothing.
use Rattle.values.proofs.values.is_array.Goals as goal
use Rattle.values.specs.Value.{is_array}

pub returns : goal.returns
unfolding is_array
returns c = cc
