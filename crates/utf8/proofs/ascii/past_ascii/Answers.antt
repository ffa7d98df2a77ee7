use Prim.Native.Nat.{◌+◌, ◌-◌}
use Rattle.utf8.proofs.PassedLaws.{passed_each, passed-run, then}
use Rattle.utf8.proofs.ascii.past_ascii.Goals as goal
use borrow.Author.Rules.{rules}
use borrow.Author.Tests.{tests}
use mathlib.Core.Path.{◌≡◌}
use native.Mathlib.Omega.{arith}

pub loop-i-preserved : goal.loop-i-preserved
loop-i-preserved c =
    let s = c.args.s.now in
    let n : c.loop-i.i + 8 - c.loop-i.i ≡ 8 = omega arith in
    then s (then s c.loop-i.invariant (passed-run s c.loop-i.i 8 (omega arith) (rw n at (c.is_ascii.ensures c.if-is_ascii.true)))) c.past_32-i.ensures

pub returns : goal.returns
returns c =
    let s = c.args.s.now in
    then s c.loop-i.invariant (passed_each s _ _ c.past.ensures.within.0 c.past.ensures.within.1 (λ k g e. let p = c.past.ensures.passed k g e in search (rules, tests)))
