use Rattle.octets.proofs.texts.same.Goals as goal
use Rattle.octets.specs.Text.{same}

pub returns : goal.returns
unfolding same
returns c = cc
