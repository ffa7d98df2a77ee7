-- One octet and then three. Assumes nothing.
use Rattle.escapes.proofs.StoreLaws.{behind}
use Rattle.escapes.proofs.storing.put_four.Goals as goal
use mathlib.Core.List.{[], ◌∷◌}

pub returns : goal.returns
returns c =
    let x = c.args in behind x.out.now x.at x.a (x.b ∷ x.c ∷ x.d ∷ []) 3 c.put_byte-p.ensures c.put_three.ensures
