-- `texts::is_destination` meets its contract: the definition opened, and the tests put in. Assumes nothing.
use Rattle.rules.proofs.texts.is_destination.Goals as goal
use Rattle.rules.specs.Texts.{destination_rule}

pub returns : goal.returns
unfolding destination_rule
returns c = c.is_run.ensures
