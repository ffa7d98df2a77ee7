-- `positions::objects::values_at` meets its contract: a brace opens an object, and is inside. Assumes nothing.
use Rattle.octets.proofs.TextLaws.{there}
use Rattle.positions.proofs.ObjectLaws.{no-values, some-values}
use Rattle.positions.proofs.objects.values_at.Goals as goal
use mathlib.Core.Path.{sym, ◌∙◌}

pub returns-then-byte-ne123 : goal.returns-then-byte-ne123
returns-then-byte-ne123 c = no-values c.args.t c.args.v.now c.args.o (λ e. c.if-byte-ne123.true (c.byte.ensures ∙ e))

pub values_of-requires : goal.values_of-requires
values_of-requires c = there c.args.v.now c.args.o 122 (sym c.byte.ensures ∙ c.if-byte-ne123.false)

pub returns : goal.returns
returns c = some-values c.args.t c.args.v.now c.args.o (sym c.byte.ensures ∙ c.if-byte-ne123.false) c.values_of.ensures
