use Prim.Native.Nat.{◌+◌, ◌-◌}
use Rattle.octets.proofs.NumberLaws.{byte_down, no_byte}
use Rattle.octets.proofs.numbers.put_number.Goals as goal
use mathlib.Core.Path.{◌≡◌, sym, ◌∙◌}
use native.Mathlib.Omega.{arith}

pub loop-i-preserved : goal.loop-i-preserved
loop-i-preserved c =
    let x = c.args in
    let l = c.loop-i in
    let z : x.at + (l.i - 1 - x.at) ≡ l.i - 1 = omega arith in
    l.invariant ∙ rw z at (byte_down l.out x.at (l.i - 1 - x.at) (l.i - x.at) l.rest (omega arith) (omega arith))

pub returns : goal.returns
returns c =
    let x = c.args in
    sym (c.loop-i.invariant ∙ no_byte c.loop-i.out x.at _ c.loop-i.rest (omega arith))
