-- One octet and then another. Assumes nothing.
use Rattle.escapes.proofs.StoreLaws.{behind}
use Rattle.escapes.proofs.storing.put_two.Goals as goal
use mathlib.Core.List.{[], ◌∷◌}

pub returns : goal.returns
returns c =
    let x = c.args in behind x.out.now x.at x.a (x.b ∷ []) 1 c.put_byte-p.ensures c.put_byte.ensures
