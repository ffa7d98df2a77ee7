-- What the work says of the piece. Assumes nothing.
use Prim.Native.Nat.{◌-◌}
use Rattle.keep.proofs.piece.Goals as goal
use borrow.Author.Rules.{rules}
use lib.ListN.{length}
use mathlib.Core.Path.{◌≡◌, refl}
use native.Mathlib.Omega.{arith}

pub returns : goal.returns
returns c =
    let x = c.args in
    let w = c.work-w.ensures in
    let z : x.n - 0 ≡ x.n = omega arith in
    let l : length x.line.now ≡ 32790 = search rules in
    (rw c.hand_on-sent.ensures.0 (rw (z, l) at w.0), w.1, search rules, search rules, refl, refl, w.4, c.hand_on-sent.ensures.1)
