-- `words::provider` meets its contract: the definition opened, and the tests put in. Assumes nothing.
use Rattle.rules.proofs.words.provider.Goals as goal
use Rattle.rules.specs.Pieces.{word_number_from}

pub returns : goal.returns
unfolding word_number_from
returns c = cc
