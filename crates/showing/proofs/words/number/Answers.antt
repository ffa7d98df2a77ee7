-- The zeros say nothing. Assumes nothing.
use Rattle.showing.proofs.WordLaws.{numeral-is}
use Rattle.showing.proofs.words.number.Goals as goal
use mathlib.Core.Path.{◌∙◌}

pub returns : goal.returns
returns c = c.decimal.ensures ∙ numeral-is c.args.word.now c.zeros-from.result c.zeros-from.ensures.0
