-- `texts::is_user_id` meets its contract: the definition opened, and the tests put in. Assumes nothing.
use Rattle.rules.proofs.texts.is_user_id.Goals as goal
use Rattle.rules.specs.Texts.{user_rule}

pub returns : goal.returns
unfolding user_rule
returns c = c.is_run.ensures
