-- `positions::objects::metres_of` meets its contract. One law of `ObjectLaws` for each way out. Assumes nothing.
use Rattle.positions.proofs.ObjectLaws.{metres, no-metres}
use Rattle.positions.proofs.objects.metres_of.Goals as goal
use mathlib.Core.Path.{sym, ◌∙◌}

pub returns-then-not-is_metres : goal.returns-then-not-is_metres
returns-then-not-is_metres c = no-metres c.args.w.now (sym c.is_metres.ensures ∙ c.if-not-is_metres.true)

pub returns : goal.returns
returns c = metres c.args.w.now (sym c.is_metres.ensures ∙ c.if-not-is_metres.false) c.decimal.ensures c.unwrap_or.ensures
