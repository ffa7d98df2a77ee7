-- `statuses::status_length` meets its contract, by the table's rule. Assumes nothing.
use Rattle.rules.proofs.StatusLaws.{length-is, none_is, row}
use Rattle.rules.proofs.statuses.status_length.Goals as goal
use lib.ListN.{length}
use mathlib.Core.Path.{ap}
use native.Mathlib.Omega.{arith}

pub overflow_sub-result : goal.overflow_sub-result
overflow_sub-result c = (row c.index_in-i.result c.if-i-lt14.true).rises

pub overflow_cast-result : goal.overflow_cast-result
overflow_cast-result c = let r = row c.index_in-i.result c.if-i-lt14.true in omega (arith, r.inside)

pub returns-then-i-lt14 : goal.returns-then-i-lt14
returns-then-i-lt14 c = length-is c.index_in-i.result c.args.code c.index_in-i.ensures c.if-i-lt14.true

pub returns-else-i-lt14 : goal.returns-else-i-lt14
returns-else-i-lt14 c = let e = none_is c.index_in-i.result c.args.code c.index_in-i.ensures c.if-i-lt14.false in
    (ap length e, omega (arith, ap length e))
