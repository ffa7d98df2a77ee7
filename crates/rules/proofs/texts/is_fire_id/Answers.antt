-- `texts::is_fire_id` meets its contract: the definition opened, and the tests put in. Assumes nothing.
use Rattle.rules.proofs.texts.is_fire_id.Goals as goal
use Rattle.rules.specs.Texts.{fire_rule}

pub returns : goal.returns
unfolding fire_rule
returns c = c.is_run.ensures
