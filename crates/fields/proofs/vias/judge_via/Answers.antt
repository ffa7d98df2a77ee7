use Prim.Native.Nat.{◌-◌}
use Rattle.fields.proofs.JudgingLaws.{via-broken, via-kept}
use Rattle.fields.proofs.TrailLaws.{walk-starts, walk-over, walk-full, walk-broken, walk-again, walk-shut}
use Rattle.fields.proofs.ViaLaws.{not-array, no-object}
use Rattle.fields.proofs.vias.judge_via.Goals as goal
use Rattle.json_text.proofs.TurnLaws.{no_element}
use Rattle.octets.proofs.TextLaws.{there}
use Rattle.values.proofs.ValueLaws.{array-there}
use borrow.Author.Rules.{rules}
use lib.ListN.{length}
use mathlib.Core.Path.{sym, ◌∙◌}
use native.Mathlib.Omega.{arith}

pub returns-then-not-is_array : goal.returns-then-not-is_array
returns-then-not-is_array c = let v = c.args.v.now in via-broken v (sym (not-array v (sym c.is_array.ensures ∙ c.if-not-is_array.true)))

pub returns-then-byte-eq93 : goal.returns-then-byte-eq93
returns-then-byte-eq93 c =
    let v = c.args.v.now in
    via-broken v (sym (no-object v (sym c.is_array.ensures ∙ c.if-not-is_array.false)
    c.skip.ensures.is (sym c.byte.ensures ∙ c.if-byte-eq93.true)))

pub loop-init : goal.loop-init
loop-init c =
    let v = c.args.v.now in
    let e = sym c.is_array.ensures ∙ c.if-not-is_array.false in
    let h = array-there v e in (
      omega arith,
      (
        (h, search rules),
        walk-starts v (omega arith) e c.skip.ensures.is (λ f. c.if-byte-eq93.false (c.byte.ensures ∙ f)) c.no_trail-r.ensures,
      ),
    )

pub returns-then-r-eq16 : goal.returns-then-r-eq16
returns-then-r-eq16 c =
    via-broken c.args.v.now (walk-full c.loop.invariant.1.1 (omega arith) c.skip-q.ensures.is c.if-r-eq16.true)

pub returns-in_default : goal.returns-in_default
returns-in_default c =
    via-broken c.args.v.now
    (walk-broken c.loop.invariant.1.1 (omega arith) c.skip-q.ensures.is
    c.in_default.ensures)

pub element_from-e-requires : goal.element_from-e-requires
element_from-e-requires c = c.in-Some.ensures.1.1

pub onward-r-requires : goal.onward-r-requires
onward-r-requires c = omega (arith, c.loop.invariant.1.1.few)

pub returns-then-byte-ne44 : goal.returns-then-byte-ne44
returns-then-byte-ne44 c =
    via-kept c.args.v.now
    (walk-shut c.loop.invariant.1.1 (omega arith) c.skip-q.ensures.is c.if-r-eq16.false
    c.in-Some.ensures.0 c.in-Some.ensures.1.0
    c.element_from-e.ensures c.onward-r.ensures
    (λ e. c.if-byte-ne44.true (c.byte-in-loop.ensures ∙ e)))

pub overflow_add-p : goal.overflow_add-p
overflow_add-p c =
    omega (
      arith,
      c.loop.invariant.1.0.1,
      there c.args.v.now c.element_from-e.result.then 43 (sym c.byte-in-loop.ensures ∙ c.if-byte-ne44.false),
    )

pub loop-preserved : goal.loop-preserved
loop-preserved c =
    let b = sym c.byte-in-loop.ensures ∙ c.if-byte-ne44.false in (
      omega (arith, there c.args.v.now c.element_from-e.result.then 43 b),
      (
        c.loop.invariant.1.0,
        walk-again c.loop.invariant.1.1 (omega arith) c.skip-q.ensures.is c.if-r-eq16.false
            c.in-Some.ensures.0 c.in-Some.ensures.1.0
            c.element_from-e.ensures c.onward-r.ensures (omega arith) b,
      ),
    )

pub returns : goal.returns
returns c =
    via-kept c.args.v.now
    (walk-over c.loop.invariant.1.1 (no_element c.args.v.now (length c.args.v.now - c.loop.counter) c.loop.p (omega arith))
    (omega (arith, c.loop.invariant.1.1.counted, c.loop.invariant.1.0.0)))
