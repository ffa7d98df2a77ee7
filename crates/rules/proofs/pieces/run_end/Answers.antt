-- `pieces::run_end` meets its contract, by what `past` passes and where it stops. Assumes nothing.
use Rattle.rules.proofs.PieceLaws.{run_ends, run_to}
use Rattle.rules.proofs.pieces.run_end.Goals as goal
use borrow.Author.Rules.{rules}
use mathlib.Core.Path.{sym}
use native.Mathlib.Omega.{arith}

pub returns-then-s-at : goal.returns-then-s-at
returns-then-s-at c = (sym (run_ends c.args.class c.args.s.now c.args.at (omega arith)), (omega arith, omega arith))

pub returns : goal.returns
returns c =
    let x = c.args in
    let p = c.past.ensures in
    let e = run_to x.class x.s.now x.at c.past.result p.within.0 p.within.1 (λ k g h. let q = p.passed k g h in search rules) (λ h. let q = p.stopped h in search rules) in
    (sym e, (omega arith, omega arith))
