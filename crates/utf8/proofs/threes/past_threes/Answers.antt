use Rattle.utf8.proofs.PassedLaws.{then, passed-char}
use Rattle.utf8.proofs.threes.past_threes.Goals as goal
use native.Mathlib.Omega.{arith}

pub loop-i-preserved : goal.loop-i-preserved
loop-i-preserved c =
    let s = c.args.s.now in
    then s c.loop-i.invariant (passed-char s c.loop-i.i 3 (omega arith) (c.is_three.ensures c.if-is_three.true) (λ e. omega (arith, e)))
