-- `positions::objects::home_in` meets its contract: the numbers of the types' names. Assumes nothing.
use Rattle.positions.proofs.ObjectLaws.{the-home}
use Rattle.positions.proofs.objects.home_in.Goals as goal
use mathlib.Core.Path.{◌∙◌}

pub returns : goal.returns
returns c = c.home_at.ensures ∙ the-home c.args.v.now c.values_at-caller.ensures c.or_end.ensures c.values_at-person.ensures c.or_end-2.ensures
