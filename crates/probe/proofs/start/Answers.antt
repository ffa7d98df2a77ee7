-- 255 blank records have 40,816 bytes. Assumes nothing.
use Rattle.probe.proofs.TableLaws.{first_fits, held-blank}
use Rattle.probe.proofs.start.Goals as goal
use native.Mathlib.Omega.{arith}

pub returns : goal.returns
returns c = (held-blank c.args.held.now 40816 255 (omega arith) c.make_blank.new.held c.make_blank.ensures.1 first_fits, omega arith)
