-- `utf8::sequences::four` meets its contract. One law of `Rows` for each byte. Assumes nothing.
use Prim.Native.Nat.{◌+◌}
use Rattle.utf8.proofs.Rows.{inside, goes_on_lem, stops, last, whole}
use Rattle.utf8.proofs.sequences.four.Goals as goal
use Rattle.utf8.specs.Rfc3629.{tail, counted}
use Rattle.utf8.specs.inner.Sized.{sized}
use borrow.Author.Tests.{not-true, not-false}
use mathlib.Core.Bool.{Bool}
use mathlib.Core.List.{[], ◌∷◌}
use mathlib.Core.Path.{sym, ap, ◌∙◌}
use native.Mathlib.Omega.{arith}

pub returns-then-not-next : goal.returns-then-not-next
returns-then-not-next c =
    let x = c.args in
    ap sized (stops x.lo x.hi (tail ∷ tail ∷ []) x.s.now (x.at + 1) (omega arith) 4 (sym c.next.ensures ∙ not-true _ c.if-not-next.true-raw))

pub overflow_add-at-2 : goal.overflow_add-at-2
overflow_add-at-2 c =
    let x = c.args in
    omega (arith, inside x.s.now (x.at + 1) x.lo x.hi (omega arith) (sym c.next.ensures ∙ not-false _ c.if-not-next.false-raw))

pub returns-then-not-next-2 : goal.returns-then-not-next-2
returns-then-not-next-2 c =
    let x = c.args in
    ap sized (stops 0x80 0xBF (tail ∷ []) x.s.now (x.at + 2) (omega arith) 4 (sym c.next-2.ensures ∙ not-true _ c.if-not-next-2.true-raw))
    ∙ ap (λ (t : Bool). sized (counted t 4))
    (sym (goes_on_lem x.lo x.hi (tail ∷ tail ∷ []) x.s.now (x.at + 1) (omega arith) (x.at + 2) (omega arith)
    (sym c.next.ensures ∙ not-false _ c.if-not-next.false-raw)))

pub overflow_add-at-3 : goal.overflow_add-at-3
overflow_add-at-3 c =
    let x = c.args in
    omega (arith, inside x.s.now (x.at + 2) 0x80 0xBF (omega arith) (sym c.next-2.ensures ∙ not-false _ c.if-not-next-2.false-raw))

pub returns : goal.returns
returns c =
    let x = c.args in
    c.then_some.ensures ∙ whole _ 3
    ∙ ap (λ (t : Bool). sized (counted t 4))
    (c.next-3.ensures ∙ last 0x80 0xBF x.s.now (x.at + 3) (omega arith)
    ∙ sym (goes_on_lem 0x80 0xBF (tail ∷ []) x.s.now (x.at + 2) (omega arith) (x.at + 3) (omega arith) (sym c.next-2.ensures ∙ not-false _ c.if-not-next-2.false-raw))
    ∙ sym (goes_on_lem x.lo x.hi (tail ∷ tail ∷ []) x.s.now (x.at + 1) (omega arith) (x.at + 2) (omega arith)
    (sym c.next.ensures ∙ not-false _ c.if-not-next.false-raw)))
