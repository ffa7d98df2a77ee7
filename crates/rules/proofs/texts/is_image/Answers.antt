-- `texts::is_image` meets its contract: the definition opened, and the tests put in. Assumes nothing.
use Rattle.rules.proofs.texts.is_image.Goals as goal
use Rattle.rules.specs.Texts.{image_rule}

pub returns : goal.returns
unfolding image_rule
returns c = cc
