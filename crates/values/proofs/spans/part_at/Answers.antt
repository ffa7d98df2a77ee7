-- `values::spans::part_at` meets its contract. By its definition and what the callees ensure. Assumes nothing.
use Rattle.values.proofs.spans.part_at.Goals as goal
use Rattle.values.specs.Spans.{cut}

pub returns : goal.returns
unfolding cut
returns c = c.part.ensures
