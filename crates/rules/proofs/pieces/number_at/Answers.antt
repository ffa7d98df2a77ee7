use Rattle.rules.proofs.PieceLaws.{number_more, value-small}
use Rattle.rules.proofs.pieces.number_at.Goals as goal
use Rattle.rules.specs.Pieces.{decimal_at}
use mathlib.Core.Path.{refl}
use native.Mathlib.Omega.{arith}

pub loop-i-init : goal.loop-i-init
unfolding decimal_at
loop-i-init c = refl

pub overflow_mul-v : goal.overflow_mul-v
overflow_mul-v c =
    omega (arith, value-small c.args.s.now c.args.at (λ k. omega (arith, c.shared_slice_known-1.given k)) c.loop-i.i (omega arith))

pub overflow_add-v : goal.overflow_add-v
overflow_add-v c =
    omega (arith, value-small c.args.s.now c.args.at (λ k. omega (arith, c.shared_slice_known-1.given k)) c.loop-i.i (omega arith))

pub loop-i-preserved : goal.loop-i-preserved
loop-i-preserved c = number_more c.args.s.now c.args.at c.loop-i.i c.loop-i.v _ _ c.loop-i.invariant c.byte.ensures c.worth.ensures.0
