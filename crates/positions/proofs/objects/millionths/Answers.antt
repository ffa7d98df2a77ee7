-- `positions::objects::millionths` meets its contract, by its definition. Assumes nothing.
use Rattle.positions.proofs.objects.millionths.Goals as goal
use Rattle.positions.specs.Objects.{millionths}
use Rattle.std.proofs.lemmas.Int.{to_z-of_z}
use mathlib.Core.Path.{◌∙◌}
use mir.Syntax.{w32}
use mir.Val.{SFits}
use borrow.Author.Rules.{rules}

pub returns : goal.returns
unfolding millionths
returns c =
    let f : SFits w32 c.unwrap_or.result = search rules in
    to_z-of_z w32 c.unwrap_or.result f ∙ c.unwrap_or.ensures ∙ rw c.coordinate_of.ensures
