-- `positions::objects::location_at` meets its contract: the numbers of the type's names. Assumes nothing.
use Rattle.positions.proofs.ObjectLaws.{told-caller}
use Rattle.positions.proofs.objects.location_at.Goals as goal
use mathlib.Core.Path.{◌∙◌}

pub returns : goal.returns
returns c = c.told.ensures ∙ told-caller c.args.v.now c.args.o c.values_at-at.ensures
