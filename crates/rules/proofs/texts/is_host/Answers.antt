-- `texts::is_host` meets its contract: the definition opened, and the tests put in. Assumes nothing.
use Rattle.rules.proofs.texts.is_host.Goals as goal
use Rattle.rules.specs.Texts.{host_rule}

pub returns : goal.returns
unfolding host_rule
returns c = c.is_run.ensures
