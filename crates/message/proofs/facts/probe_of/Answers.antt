-- `message::facts::probe_of` meets its contract. By its definition and what the callees ensure. Assumes nothing.
use Rattle.message.proofs.facts.probe_of.Goals as goal
use Rattle.message.specs.Message.{probe_of}

pub returns : goal.returns
unfolding probe_of
returns c = rw c.no_trail.ensures
