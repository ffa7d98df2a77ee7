use Prim.Native.Nat.{◌+◌, ◌-◌}
use Rattle.octets.proofs.TextLaws.{before_past, found_within}
use Rattle.octets.proofs.texts.find.Goals as goal
use Rattle.octets.specs.Text.{before}
use Rattle.std.proofs.lemmas.Slice.{between_to_end}
use Rattle.std.specs.List.{list_any}
use lib.Dec.{eqb}
use lib.ListN.{drop, length, take}
use mathlib.Core.Bool.{false}
use mathlib.Core.Path.{◌≡◌, ap, sym, ◌∙◌}
use native.Mathlib.Omega.{arith}

pub loop-i-preserved : goal.loop-i-preserved
loop-i-preserved c =
    let x = c.args in
    let n : c.loop-i.i + 32 - c.loop-i.i ≡ 32 = omega arith in
    let e : list_any (λ y. eqb y x.b) (take 32 (drop c.loop-i.i x.s.now)) ≡ false = sym (rw n at c.contains.ensures.value) ∙ c.if-not-contains.true in
    (omega arith, c.loop-i.invariant.1 ∙ before_past x.b 32 x.s.now c.loop-i.i (omega arith) e)

pub overflow_add-result : goal.overflow_add-result
overflow_add-result c =
    let x = c.args in
    let l = c.before-2.ensures ∙ ap (before x.b) (between_to_end x.s.now c.loop-i.i (length x.s.now) (omega arith)) in
    omega (arith, found_within x.b x.s.now c.loop-i.i (omega arith), l)

pub returns : goal.returns
returns c =
    let x = c.args in
    let l = c.before-2.ensures ∙ ap (before x.b) (between_to_end x.s.now c.loop-i.i (length x.s.now) (omega arith)) in
    omega (arith, l)
