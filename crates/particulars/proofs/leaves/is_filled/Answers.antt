-- `particulars::leaves::is_filled` meets its contract, by how many characters there are. Assumes nothing.
use Rattle.particulars.proofs.LeafLaws.{no-filled, some-filled}
use Rattle.particulars.proofs.leaves.is_filled.Goals as goal

pub returns-in-None : goal.returns-in-None
returns-in-None c = no-filled c.args.v.now c.in-None.ensures

pub returns-in-Some : goal.returns-in-Some
returns-in-Some c = some-filled c.args.v.now c.in-Some.ensures
