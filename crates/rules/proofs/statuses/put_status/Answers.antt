-- `statuses::put_status` meets its contract: the part that is put is the code's text, by the table's rule. Assumes nothing.
use Rattle.rules.proofs.StatusLaws.{none_is, part-is, row}
use Rattle.rules.proofs.statuses.put_status.Goals as goal

pub slice_bounds-put-count : goal.slice_bounds-put-count
slice_bounds-put-count c = (row c.index_in-i.result c.if-i-lt14.true).rises

pub slice_bounds-put-start : goal.slice_bounds-put-start
slice_bounds-put-start c = (row c.index_in-i.result c.if-i-lt14.true).rises

pub slice_bounds-put-end : goal.slice_bounds-put-end
slice_bounds-put-end c = (row c.index_in-i.result c.if-i-lt14.true).inside

pub put-requires : goal.put-requires
put-requires c =
    rw (part-is c.index_in-i.result c.args.code c.index_in-i.ensures c.if-i-lt14.true) c.requires

pub returns-then-i-lt14 : goal.returns-then-i-lt14
returns-then-i-lt14 c =
    rw (part-is c.index_in-i.result c.args.code c.index_in-i.ensures c.if-i-lt14.true) at c.put.ensures

pub returns-else-i-lt14 : goal.returns-else-i-lt14
returns-else-i-lt14 c =
    rw (← none_is c.index_in-i.result c.args.code c.index_in-i.ensures c.if-i-lt14.false) c.put-else-i-lt14.ensures
