-- No room is no change. Assumes nothing.
use Rattle.escapes.proofs.storing.put_byte.Goals as goal
use lib.Seq.{set_out}
use mathlib.Core.Path.{sym, refl}

pub returns : goal.returns
returns c = (refl, sym (set_out _ _ _ c.if-at-out.false))
