-- One octet and then two. Assumes nothing.
use Rattle.escapes.proofs.StoreLaws.{behind}
use Rattle.escapes.proofs.storing.put_three.Goals as goal
use mathlib.Core.List.{[], ◌∷◌}

pub returns : goal.returns
returns c =
    let x = c.args in behind x.out.now x.at x.a (x.b ∷ x.c ∷ []) 2 c.put_byte-p.ensures c.put_two.ensures
