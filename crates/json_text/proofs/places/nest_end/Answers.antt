use Rattle.json_text.proofs.PlaceLaws as laws
use Rattle.json_text.proofs.places.nest_end.Goals as goal
use Rattle.json_text.specs.Places.{outside}
use mathlib.Core.Path.{◌≡◌, refl, sym, ◌∙◌}
use native.Mathlib.Omega.{arith}

pub loop-i-init : goal.loop-i-init
loop-i-init c = (omega arith, omega arith, omega arith, omega arith, refl)

pub loop-i-preserved-then-b-eq34 : goal.loop-i-preserved-then-b-eq34
loop-i-preserved-then-b-eq34 c = (
  omega arith,
  omega arith,
  omega arith,
  omega arith,
  c.loop-i.invariant.4
      ∙ laws.nest_string c.args.s.now c.loop-i.i c.loop-i.n (omega arith) (omega arith) c.if-b-eq34.true c.string_end-i.ensures.0,
)

pub loop-i-preserved-then-is_open : goal.loop-i-preserved-then-is_open
loop-i-preserved-then-is_open c = (
  omega arith,
  omega arith,
  omega arith,
  omega arith,
  c.loop-i.invariant.4
      ∙ laws.nest_opens c.args.s.now c.loop-i.i c.loop-i.n (omega arith) (omega arith) (sym c.is_open.ensures ∙ c.if-is_open.true)
      c.if-b-eq34.false,
)

pub returns-then-n-eq1 : goal.returns-then-n-eq1
returns-then-n-eq1 c = (
  sym (c.loop-i.invariant.4
      ∙ laws.nest_closes c.args.s.now c.loop-i.i c.loop-i.n (omega arith) (omega arith) c.if-n-eq1.true
      (sym c.is_open.ensures ∙ c.if-is_open.false) (sym c.is_shut.ensures ∙ c.if-is_shut.true) c.if-b-eq34.false),
  omega arith,
  omega arith,
)

pub loop-i-preserved-then-is_shut : goal.loop-i-preserved-then-is_shut
loop-i-preserved-then-is_shut c =
    let z : c.loop-i.n ≡ 1 → ⊥ = c.if-n-eq1.false in (
      omega arith,
      omega arith,
      omega arith,
      omega arith,
      c.loop-i.invariant.4
          ∙ laws.nest_shuts c.args.s.now c.loop-i.i c.loop-i.n (omega arith) (omega arith)
          (sym c.is_open.ensures ∙ c.if-is_open.false) (sym c.is_shut.ensures ∙ c.if-is_shut.true) c.if-b-eq34.false,
    )

pub loop-i-preserved : goal.loop-i-preserved
loop-i-preserved c = (
  omega arith,
  omega arith,
  omega arith,
  omega arith,
  c.loop-i.invariant.4
      ∙ laws.nest_more c.args.s.now c.loop-i.i c.loop-i.n (omega arith) (omega arith)
      (sym c.is_open.ensures ∙ c.if-is_open.false) (sym c.is_shut.ensures ∙ c.if-is_shut.false) c.if-b-eq34.false,
)

pub returns : goal.returns
returns c = (sym (c.loop-i.invariant.4 ∙ laws.left_end c.args.s.now c.loop-i.i outside c.loop-i.n (omega arith)), omega arith, omega arith)
