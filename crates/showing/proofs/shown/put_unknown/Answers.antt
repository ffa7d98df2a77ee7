-- One part at the front. Assumes nothing.
use Rattle.octets.proofs.Chain.{more, start}
use Rattle.showing.proofs.shown.put_unknown.Goals as goal
use Rattle.showing.specs.Shown.{unknown}

pub returns : goal.returns
returns c =
    let w = more unknown (start c.args.out.now) c.put.ensures in (w.place, w.is)
