-- `values::callee_reach` meets its contract, piece by piece. Assumes nothing.
use Rattle.letters.proofs.JoinLaws.{fixed-is}
use Rattle.letters.proofs.values.callee_reach.Goals as goal
use Rattle.letters.specs.inner.Reach.{reach_of}
use Rattle.octets.specs.Ascii.{ascii}
use Rattle.rules.specs.Pieces.{fixed}
use Rattle.rules.specs.Texts.{fire_id}
use mathlib.Core.List.{[], ◌∷◌}
use mathlib.Core.Path.{◌∙◌}
use native.Mathlib.Nat.{zero-add}

pub returns : goal.returns
unfolding reach_of
returns c =
    fixed-is (reach_of (fire_id ∷ fixed (ascii ".callee") ∷ [])) c.args.s.now 0 (ascii "net119:fire@") c.fire_reach.ensures
    c.fixed_or.ensures
    ∙ zero-add _
