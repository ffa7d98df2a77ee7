-- `utf8::sequences::next` meets its contract. By what the callees ensure. Assumes nothing.
use Rattle.octets.specs.Class.{among}
use Rattle.utf8.proofs.sequences.next.Goals as goal
use mathlib.Core.Path.{ap, ◌∙◌}

pub returns : goal.returns
returns c = c.among.ensures ∙ ap (among c.args.lo c.args.hi) c.byte.ensures
