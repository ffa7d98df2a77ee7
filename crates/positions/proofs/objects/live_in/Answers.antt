-- `positions::objects::live_in` meets its contract: the numbers of the type's names. Assumes nothing.
use Rattle.positions.proofs.ObjectLaws.{told-live}
use Rattle.positions.proofs.objects.live_in.Goals as goal
use mathlib.Core.Path.{◌∙◌}

pub returns : goal.returns
returns c = c.told.ensures ∙ told-live c.args.v.now c.values_at-at.ensures
