-- `positions::objects::location_in` meets its contract: each element is told in turn. Assumes nothing.
use Rattle.positions.proofs.ObjectLaws.{k-th}
use Rattle.positions.proofs.objects.location_in.Goals as goal
use Rattle.std.specs.Prelude.{Some}
use mathlib.Core.Path.{ap, ◌∙◌}

pub returns-in_err-o : goal.returns-in_err-o
returns-in_err-o c = c.from_residual.ensures ∙ k-th c.args.v.now c.args.k c.in_err-o.ensures

pub returns : goal.returns
returns c = ap Some c.location_at.ensures ∙ k-th c.args.v.now c.args.k c.in_ok-o.ensures
