use Prim.Native.Nat.{◌+◌}
use Rattle.letters.proofs.LoopLaws.{count-ends, count-more, count-other, count-over, count-zero}
use Rattle.letters.proofs.pieces.count_letters.Goals as goal
use Rattle.letters.proofs.pieces.count_letters.Goals.{then-not-is_digit-via-then-not-is_digit, then-not-is_digit-via-else-not-is_digit+then-w-eq0}
use Rattle.letters.proofs.pieces.count_letters.Goals.{then-not-is_digit-via-else-not-is_digit+else-w-eq0+then-hi-w}
use Rattle.letters.specs.inner.Reach.{count_letters}
use lib.ListN.{drop}
use mathlib.Core.Path.{◌≡◌, sym, ◌∙◌}
use native.Mathlib.Nat.{zero-add}
use native.Mathlib.Omega.{arith}

pub loop-i-init : goal.loop-i-init
loop-i-init c = (omega arith, sym (zero-add _))

pub returns-then-not-is_digit : goal.returns-then-not-is_digit
returns-then-not-is_digit c =
    let x = c.args in
    let i = c.loop-i.i in
    let e : i + count_letters x.hi c.loop-i.v (drop i x.s.now) ≡ i = elim c.then-not-is_digit.branch [
      | then-not-is_digit-via-then-not-is_digit w ↦ count-other x.hi c.loop-i.v x.s.now i (omega arith) (sym c.is_digit.ensures ∙ w.if-not-is_digit.true)
      | then-not-is_digit-via-else-not-is_digit+then-w-eq0 w ↦ count-zero x.hi c.loop-i.v x.s.now i (omega arith) _ (omega (arith, c.worth.ensures.0)) w.if-w-eq0.true
      | then-not-is_digit-via-else-not-is_digit+else-w-eq0+then-hi-w w ↦
          count-over x.hi c.loop-i.v x.s.now i (omega arith) _ (omega (arith, c.worth.ensures.0)) w.if-w-eq0.false w.if-hi-w.true
    ] in
    (sym (c.loop-i.invariant.1 ∙ e), omega arith)

pub loop-i-preserved : goal.loop-i-preserved
loop-i-preserved c =
    let x = c.args in (
      omega arith,
      c.loop-i.invariant.1
          ∙ count-more x.hi c.loop-i.v x.s.now c.loop-i.i (omega arith) _ (omega (arith, c.worth.ensures.0))
          (sym c.is_digit.ensures ∙ c.if-not-is_digit.false) c.if-w-eq0.false (omega arith),
    )

pub returns : goal.returns
returns c =
    let x = c.args in
    (omega (arith, c.loop-i.invariant.1 ∙ count-ends x.hi c.loop-i.v x.s.now c.loop-i.i (omega arith)), omega arith)
