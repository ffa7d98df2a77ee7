-- `coordinates::millionths` meets its contract: each way out is a law. Assumes nothing.
use Prim.Native.Nat.{◌<◌, ◌-◌}
use Rattle.coordinates.proofs.CoordinateLaws.{all_read, few_decimals, length-whole, long_whole, no_whole, whole_small, wrong_decimals}
use Rattle.coordinates.proofs.millionths.Goals as goal
use Rattle.coordinates.proofs.millionths.Goals.{else-point-b-via-then-point-b+else-not-is_digits, else-point-b-via-else-point-b}
use Rattle.octets.specs.Class.{digits_rule}
use lib.ListN.{drop, length, take}
use mathlib.Core.Bool.{true}
use mathlib.Core.Path.{◌≡◌, sym, ◌∙◌}
use native.Mathlib.Omega.{arith}

pub returns-then-point-gt3-clause-is : goal.returns-then-point-gt3-clause-is
returns-then-point-gt3-clause-is c = long_whole c.args.b.now c.find-point.result c.find-point.ensures c.if-point-gt3.true

pub slice_bounds-decimal-end : goal.slice_bounds-decimal-end
slice_bounds-decimal-end c = sym (length-whole c.args.b.now c.find-point.result c.find-point.ensures)

pub returns-in_err-whole-clause-is : goal.returns-in_err-whole-clause-is
returns-in_err-whole-clause-is c =
    c.from_residual.ensures ∙ no_whole c.args.b.now c.find-point.result c.find-point.ensures c.if-point-gt3.false c.in_err-whole.ensures

pub returns-then-not-is_digits-clause-is : goal.returns-then-not-is_digits-clause-is
returns-then-not-is_digits-clause-is c =
    wrong_decimals c.args.b.now c.find-point.result c.find-point.ensures c.if-point-gt3.false c.in_ok-whole.whole c.in_ok-whole.ensures c.min.result c.min.ensures
    c.if-point-b.true (sym c.is_digits.ensures ∙ c.if-not-is_digits.true)

pub with_decimals-requires : goal.with_decimals-requires
with_decimals-requires c = whole_small c.args.b.now c.find-point.result c.find-point.ensures c.if-point-gt3.false c.in_ok-whole.whole c.in_ok-whole.ensures

pub returns-clause-is : goal.returns-clause-is
returns-clause-is c =
    let b = c.args.b.now in
    let m = c.min.result in
    let good : c.find-point.result < length b → digits_rule 1 6 (take (length b - m) (drop m b)) ≡ true = λ h. elim c.else-point-b.branch [
      | else-point-b-via-then-point-b+else-not-is_digits w ↦ sym w.is_digits.ensures ∙ w.if-not-is_digits.false
      | else-point-b-via-else-point-b w ↦ absurd (omega arith)
    ] in
    let few = few_decimals b c.find-point.result c.find-point.ensures c.if-point-gt3.false c.in_ok-whole.whole c.in_ok-whole.ensures m c.min.ensures good in
    all_read b c.find-point.result c.find-point.ensures c.if-point-gt3.false c.in_ok-whole.whole c.in_ok-whole.ensures m c.min.ensures good
    c.with_decimals.result (c.with_decimals.ensures.is few)
