-- `utf8::past_alike` meets its contract. By what the callees ensure. Assumes nothing.
use Rattle.utf8.proofs.PassedLaws.{then}
use Rattle.utf8.proofs.past_alike.Goals as goal

pub returns-in-1 : goal.returns-in-1
returns-in-1 c = then c.args.s.now c.past_ascii.ensures c.past_threes.ensures
