use Rattle.rules.proofs.StatusLaws.{hit, miss}
use Rattle.rules.proofs.statuses.index_in.Goals as goal
use Rattle.rules.specs.Status.{codes, index_in}
use mathlib.Core.Path.{◌≡◌, sym}
use native.Mathlib.Omega.{arith}

pub loop-i-init : goal.loop-i-init
loop-i-init c = (omega arith, omega arith)

pub returns-then-i-code : goal.returns-then-i-code
returns-then-i-code c = omega (arith, hit codes c.args.code c.loop-i.i (omega arith) c.if-i-code.true)

pub loop-i-preserved : goal.loop-i-preserved
loop-i-preserved c = (omega arith, omega (arith, miss codes c.args.code c.loop-i.i (omega arith) c.if-i-code.false))

pub returns : goal.returns
unfolding index_in
returns c = let e : c.loop-i.i ≡ 14 = omega arith in sym (rw e at c.loop-i.invariant.1)
