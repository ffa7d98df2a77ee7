-- `texts::is_call_id` meets its contract: the definition opened, and the tests put in. Assumes nothing.
use Rattle.rules.proofs.texts.is_call_id.Goals as goal
use Rattle.rules.specs.Texts.{call_id_rule}

pub returns : goal.returns
unfolding call_id_rule
returns c = c.is_run.ensures
