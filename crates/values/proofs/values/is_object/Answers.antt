-- `values::values::is_object` meets its contract. By its definition and what the callees ensure. Assumes nothing.
use Rattle.values.proofs.values.is_object.Goals as goal
use Rattle.values.specs.Value.{is_object}

pub returns : goal.returns
unfolding is_object
returns c = cc
