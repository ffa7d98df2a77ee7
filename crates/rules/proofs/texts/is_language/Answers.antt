-- `texts::is_language` meets its contract: the definition opened, and the tests put in. Assumes nothing.
use Rattle.rules.proofs.texts.is_language.Goals as goal
use Rattle.rules.specs.Texts.{language_rule}

pub returns : goal.returns
unfolding language_rule
returns c = c.is_run.ensures
