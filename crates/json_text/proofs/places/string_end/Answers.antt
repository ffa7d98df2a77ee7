use Prim.Native.Nat.{◌+◌}
use Rattle.json_text.proofs.PlaceLaws as laws
use Rattle.json_text.proofs.places.string_end.Goals as goal
use mathlib.Core.Path.{refl, sym, ◌∙◌}
use native.Mathlib.Omega.{arith}

pub loop-i-init : goal.loop-i-init
loop-i-init c = (omega arith, omega arith, refl)

pub loop-i-preserved-then-n-ge32 : goal.loop-i-preserved-then-n-ge32
loop-i-preserved-then-n-ge32 c = let r = c.plain_of_32-n in
    (omega arith, omega arith, c.loop-i.invariant.2 ∙ laws.string-run c.args.s.now c.loop-i.i r.result (omega arith) r.ensures.plain)

pub returns-then-b-eq34 : goal.returns-then-b-eq34
returns-then-b-eq34 c = let r = c.plain_of_32-n in (
  sym (c.loop-i.invariant.2 ∙ laws.string-run c.args.s.now c.loop-i.i r.result (omega arith) r.ensures.plain
      ∙ laws.string-closes c.args.s.now (c.loop-i.i + r.result) (omega arith) c.if-b-eq34.true),
  omega arith,
  omega arith,
)

pub returns-then-s-j-lt2 : goal.returns-then-s-j-lt2
returns-then-s-j-lt2 c =
    let r = c.plain_of_32-n in
    let q = c.loop-i.invariant.2 ∙ laws.string-run c.args.s.now c.loop-i.i r.result (omega arith) r.ensures.plain
    ∙ laws.string-cut c.args.s.now (c.loop-i.i + r.result) 0 (omega arith) (omega arith) c.if-b-eq92.true in
    (omega arith, omega arith, omega arith)

pub loop-i-preserved-then-b-eq92 : goal.loop-i-preserved-then-b-eq92
loop-i-preserved-then-b-eq92 c =
    let r = c.plain_of_32-n in (
      omega arith,
      omega arith,
      c.loop-i.invariant.2 ∙ laws.string-run c.args.s.now c.loop-i.i r.result (omega arith) r.ensures.plain
          ∙ laws.string-escape c.args.s.now (c.loop-i.i + r.result) 0 (omega arith) c.if-b-eq92.true,
    )

pub loop-i-preserved : goal.loop-i-preserved
loop-i-preserved c =
    let r = c.plain_of_32-n in (
      omega arith,
      omega arith,
      c.loop-i.invariant.2 ∙ laws.string-run c.args.s.now c.loop-i.i r.result (omega arith) r.ensures.plain
          ∙ laws.string-more c.args.s.now (c.loop-i.i + r.result) 0 (omega arith) c.if-b-eq34.false c.if-b-eq92.false,
    )

pub returns : goal.returns
returns c = let t = c.string_tail.ensures in (t.0 ∙ sym c.loop-i.invariant.2, omega arith, omega arith)
