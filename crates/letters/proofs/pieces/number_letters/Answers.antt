use Prim.Native.Nat.{◌+◌, ◌-◌}
use Rattle.letters.proofs.LoopLaws.{meets-below, number_more, number-other, number-stops, number-whole}
use Rattle.letters.proofs.pieces.number_letters.Goals as goal
use Rattle.letters.proofs.pieces.number_letters.Goals.{then-not-is_digit-via-then-not-is_digit, then-not-is_digit-via-else-not-is_digit+then-not-meets}
use Rattle.letters.specs.inner.Reach.{number_letters}
use lib.ListN.{drop}
use mathlib.Core.Path.{◌≡◌, sym, ◌∙◌}
use native.Mathlib.Nat.{zero-add}
use native.Mathlib.Omega.{arith}

pub loop-i-init : goal.loop-i-init
loop-i-init c = let z : c.args.n - 0 ≡ c.args.n = omega arith in (omega arith, rw (z, zero-add))

pub returns-then-not-is_digit : goal.returns-then-not-is_digit
returns-then-not-is_digit c =
    let x = c.args in
    let i = c.loop-i.i in
    let e : i + number_letters x.lo x.hi (x.n - i) c.loop-i.v (drop i x.s.now) ≡ i = elim c.then-not-is_digit.branch [
      | then-not-is_digit-via-then-not-is_digit w ↦ number-other x.lo x.hi x.n c.loop-i.v x.s.now i (omega arith) (omega arith)
          (sym c.is_digit.ensures ∙ w.if-not-is_digit.true)
      | then-not-is_digit-via-else-not-is_digit+then-not-meets w ↦ number-stops x.lo x.hi x.n c.loop-i.v x.s.now i (omega arith) (omega arith) _
          (omega (arith, c.worth.ensures.0)) (sym w.meets.ensures ∙ w.if-not-meets.true)
    ] in
    (sym (c.loop-i.invariant.1 ∙ e), omega arith)

pub loop-i-preserved : goal.loop-i-preserved
loop-i-preserved c =
    let x = c.args in
    let m = sym c.meets.ensures ∙ c.if-not-meets.false in (
      omega (arith, meets-below _ _ _ _ m),
      c.loop-i.invariant.1
          ∙ number_more x.lo x.hi x.n c.loop-i.v x.s.now c.loop-i.i (omega arith) (omega arith) _ (omega (arith, c.worth.ensures.0))
          (sym c.is_digit.ensures ∙ c.if-not-is_digit.false) m,
    )

pub returns : goal.returns
returns c =
    let x = c.args in
    (omega (arith, c.loop-i.invariant.1 ∙ number-whole x.lo x.hi x.n c.loop-i.v x.s.now c.loop-i.i (omega arith)), omega arith)
