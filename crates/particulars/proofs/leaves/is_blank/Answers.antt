-- `particulars::leaves::is_blank` meets its contract, by its definition. Assumes nothing.
use Rattle.particulars.proofs.leaves.is_blank.Goals as goal
use Rattle.particulars.specs.Leaves.{is_blank}

pub returns : goal.returns
unfolding is_blank
returns c = c.same.ensures
