-- `texts::is_organization` meets its contract: the definition opened, and the tests put in. Assumes nothing.
use Rattle.rules.proofs.texts.is_organization.Goals as goal
use Rattle.rules.specs.Texts.{organization_rule}

pub returns : goal.returns
unfolding organization_rule
returns c = c.is_run.ensures
