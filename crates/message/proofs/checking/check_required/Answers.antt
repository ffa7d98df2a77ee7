-- `message::checking::check_required` meets its contract. One law of `CheckLaws` for each turn. Assumes nothing.
use Rattle.message.specs.inner.Facts.{by_tag}
use Rattle.message.proofs.CheckLaws.{all_there, missed, there}
use Rattle.message.proofs.checking.check_required.Goals as goal
use mathlib.Core.Path.{sym, ◌∙◌}
use native.Mathlib.Omega.{arith}

pub returns-then-is_lacking : goal.returns-then-is_lacking
returns-then-is_lacking c =
    let x = c.args in
    missed (by_tag x.run) x.k x.at.now c.loop-n.n c.loop-n.invariant (omega arith) (omega arith) (sym c.is_lacking.ensures ∙ c.if-is_lacking.true)

pub loop-n-preserved : goal.loop-n-preserved
loop-n-preserved c =
    let x = c.args in there (by_tag x.run) x.k x.at.now c.loop-n.n c.loop-n.invariant (omega arith) (sym c.is_lacking.ensures ∙ c.if-is_lacking.false)

pub returns : goal.returns
returns c = let x = c.args in all_there (by_tag x.run) x.k x.at.now c.loop-n.n c.loop-n.invariant (omega arith)
