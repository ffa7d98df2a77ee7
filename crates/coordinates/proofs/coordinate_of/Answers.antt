-- `coordinates::coordinate_of` meets its contract: each way out is a law. Assumes nothing.
use Rattle.coordinates.proofs.CoordinateLaws.{above_zero, below_zero, no_millionths, too_far}
use Rattle.coordinates.proofs.coordinate_of.Goals as goal
use mathlib.Core.Path.{sym, ◌∙◌}
use native.Mathlib.Omega.{arith}

pub returns-in_err-m : goal.returns-in_err-m
returns-in_err-m c =
    let x = c.args in
    c.from_residual.ensures ∙ no_millionths x.degrees x.v.now c.unsigned.result.now c.unsigned.ensures c.in_err-m.ensures.is

pub returns-then-from-m : goal.returns-then-from-m
returns-then-from-m c =
    let x = c.args in
    too_far x.degrees x.v.now c.unsigned.result.now c.unsigned.ensures c.in_ok-m.m c.in_ok-m.ensures.is (omega arith)

pub returns-then-byte-eq45 : goal.returns-then-byte-eq45
returns-then-byte-eq45 c =
    let x = c.args in
    below_zero x.degrees x.v.now c.unsigned.result.now c.unsigned.ensures c.in_ok-m.m c.in_ok-m.ensures.is c.in_ok-m.ensures.small (omega arith)
    (sym c.byte.ensures ∙ c.if-byte-eq45.true)

pub returns-else-byte-eq45 : goal.returns-else-byte-eq45
returns-else-byte-eq45 c =
    let x = c.args in
    above_zero x.degrees x.v.now c.unsigned.result.now c.unsigned.ensures c.in_ok-m.m c.in_ok-m.ensures.is c.in_ok-m.ensures.small (omega arith)
    (λ e. c.if-byte-eq45.false (c.byte.ensures ∙ e))
