-- `particulars::leaves::is_given` meets its contract, by its definition. Assumes nothing.
use Rattle.particulars.proofs.leaves.is_given.Goals as goal
use Rattle.particulars.specs.Leaves.{is_given}

pub returns : goal.returns
unfolding is_given
returns c = c.among.ensures
