-- `message::reading::settle_probe` meets its contract. Assumes nothing.
use Rattle.message.proofs.CheckLaws.{later-tag}
use Rattle.message.proofs.reading.settle_probe.Goals as goal
use native.Mathlib.Omega.{arith}

pub check_rules-requires : goal.check_rules-requires
check_rules-requires c = (
  c.requires.1.0,
  (omega arith, (c.requires.1.1, later-tag c.args.s.now c.args.at.now c.args.tag c.requires.0 c.requires.1.0)),
)
