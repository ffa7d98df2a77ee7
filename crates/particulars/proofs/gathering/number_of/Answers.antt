-- `particulars::gathering::number_of` meets its contract. One law of `TableLaws` for each way out of a turn. Assumes nothing.
use Rattle.particulars.proofs.TableLaws.{number-here, number-later, number-none}
use Rattle.particulars.proofs.gathering.number_of.Goals as goal
use mathlib.Core.Path.{sym, ◌∙◌}
use native.Mathlib.Omega.{arith}

pub returns-then-same : goal.returns-then-same
returns-then-same c = (
  number-here c.args.t c.entries-es.result.now c.entries-es.ensures.0 c.loop-k.k c.args.x.now c.loop-k.invariant _ c.loop-k-test.true
      (sym c.same.ensures ∙ c.if-same.true),
  omega (arith, c.entries-es.ensures.1),
)

pub loop-k-preserved : goal.loop-k-preserved
loop-k-preserved c = number-later c.args.t c.entries-es.result.now c.entries-es.ensures.0 c.loop-k.k c.args.x.now c.loop-k.invariant _ c.loop-k-test.true
    (sym c.same.ensures ∙ c.if-same.false)

pub returns : goal.returns
returns c = (number-none c.args.t c.entries-es.result.now c.entries-es.ensures.0 c.loop-k.k c.args.x.now c.loop-k.invariant c.loop-k-test.false, omega arith)
