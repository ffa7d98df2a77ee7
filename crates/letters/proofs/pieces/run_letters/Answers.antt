use Rattle.letters.proofs.LoopLaws.{run_ends, run_more, run-stops}
use Rattle.letters.proofs.pieces.run_letters.Goals as goal
use mathlib.Core.Path.{sym, ◌∙◌}
use native.Mathlib.Nat.{zero-add}
use native.Mathlib.Omega.{arith}

pub loop-i-init : goal.loop-i-init
loop-i-init c = sym (zero-add _)

pub returns-then-not-follows : goal.returns-then-not-follows
returns-then-not-follows c = let x = c.args in (
  sym (c.loop-i.invariant ∙ run-stops x.hi x.class x.edge x.s.now c.loop-i.i (omega arith) (sym c.follows.ensures ∙ c.if-not-follows.true)),
  omega arith,
)

pub loop-i-preserved : goal.loop-i-preserved
loop-i-preserved c = let x = c.args in
    c.loop-i.invariant ∙ run_more x.hi x.class x.edge x.s.now c.loop-i.i (omega arith) (sym c.follows.ensures ∙ c.if-not-follows.false)

pub returns : goal.returns
returns c = let x = c.args in (omega (arith, c.loop-i.invariant ∙ run_ends x.hi x.class x.edge x.s.now c.loop-i.i (omega arith)), omega arith)
