-- `coordinates::unsigned` meets its contract. Assumes nothing.
use Rattle.coordinates.proofs.CoordinateLaws.{with_minus, without_minus}
use Rattle.coordinates.proofs.unsigned.Goals as goal
use mathlib.Core.Path.{sym, ◌∙◌}

pub returns-then-byte-eq45 : goal.returns-then-byte-eq45
returns-then-byte-eq45 c = with_minus c.args.v.now (sym c.byte.ensures ∙ c.if-byte-eq45.true)

pub returns-else-byte-eq45 : goal.returns-else-byte-eq45
returns-else-byte-eq45 c = without_minus c.args.v.now (λ e. c.if-byte-eq45.false (c.byte.ensures ∙ e))
