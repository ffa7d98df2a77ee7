-- `utf8::sequences::two` meets its contract. One law of `Rows` for each byte. Assumes nothing.
use Prim.Native.Nat.{◌+◌}
use Rattle.utf8.proofs.Rows.{last, whole}
use Rattle.utf8.proofs.sequences.two.Goals as goal
use Rattle.utf8.specs.Rfc3629.{counted}
use Rattle.utf8.specs.inner.Sized.{sized}
use mathlib.Core.Bool.{Bool}
use mathlib.Core.Path.{ap, ◌∙◌}
use native.Mathlib.Omega.{arith}

pub returns : goal.returns
returns c =
    let x = c.args in
    c.then_some.ensures ∙ whole _ 1 ∙ ap (λ (t : Bool). sized (counted t 2)) (c.next.ensures ∙ last 0x80 0xBF x.s.now (x.at + 1) (omega arith))
