use Rattle.json_text.proofs.PlaceLaws as laws
use Rattle.json_text.proofs.places.string_tail.Goals as goal
use Rattle.json_text.specs.Places.{quoted}
use mathlib.Core.Path.{refl, sym, ◌∙◌}
use native.Mathlib.Omega.{arith}

pub loop-i-init : goal.loop-i-init
loop-i-init c = (omega arith, omega arith, refl)

pub returns-then-b-eq34 : goal.returns-then-b-eq34
returns-then-b-eq34 c = (sym (c.loop-i.invariant.2 ∙ laws.string-closes c.args.s.now c.loop-i.i (omega arith) c.if-b-eq34.true), omega arith, omega arith)

pub returns-then-s-i-lt2 : goal.returns-then-s-i-lt2
returns-then-s-i-lt2 c = let q = c.loop-i.invariant.2 ∙ laws.string-cut c.args.s.now c.loop-i.i 0 (omega arith) (omega arith) c.if-b-eq92.true in
    (omega arith, omega arith, omega arith)

pub loop-i-preserved-then-b-eq92 : goal.loop-i-preserved-then-b-eq92
loop-i-preserved-then-b-eq92 c = (omega arith, omega arith, c.loop-i.invariant.2 ∙ laws.string-escape c.args.s.now c.loop-i.i 0 (omega arith) c.if-b-eq92.true)

pub loop-i-preserved : goal.loop-i-preserved
loop-i-preserved c = (omega arith, omega arith, c.loop-i.invariant.2 ∙ laws.string-more c.args.s.now c.loop-i.i 0 (omega arith) c.if-b-eq34.false c.if-b-eq92.false)

pub returns : goal.returns
returns c = (sym (c.loop-i.invariant.2 ∙ laws.left_end c.args.s.now c.loop-i.i quoted 0 (omega arith)), omega arith, omega arith)
