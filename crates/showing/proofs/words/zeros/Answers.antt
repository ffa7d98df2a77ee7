use Rattle.showing.proofs.WordLaws.{ends, passes, stops}
use Rattle.showing.proofs.words.zeros.Goals as goal
use borrow.Author.Rules.{rules}
use mathlib.Core.Path.{refl}
use native.Mathlib.Omega.{arith}

pub loop-i-init : goal.loop-i-init
loop-i-init c = (search rules, refl)

pub returns-then-word-i-ne48 : goal.returns-then-word-i-ne48
returns-then-word-i-ne48 c =
    let l = c.loop-i in (stops c.args.word.now l.i (omega arith) c.if-word-i-ne48.true l.invariant.1, l.invariant.0)

pub loop-i-preserved : goal.loop-i-preserved
loop-i-preserved c =
    let l = c.loop-i in (omega arith, passes c.args.word.now l.i (omega arith) c.if-word-i-ne48.false l.invariant.1)

pub returns : goal.returns
returns c =
    let l = c.loop-i in (ends c.args.word.now l.i (omega arith) l.invariant.1, l.invariant.0)
