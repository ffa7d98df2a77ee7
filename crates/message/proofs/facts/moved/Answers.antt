-- `message::facts::moved` meets its contract. By its definition. Assumes nothing.
use Rattle.fields.specs.Trail.{moved}
use Rattle.message.proofs.facts.moved.Goals as goal
use mathlib.Core.Path.{refl}

pub returns : goal.returns
unfolding moved
returns c = refl
