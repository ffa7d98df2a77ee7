-- `table::blanking::blank` meets its contract. Each answer is a law of `BlankLaws`; the table is the header, then 00 to the end. Assumes nothing.
use Rattle.table.proofs.BlankLaws.{too_few, too_many, wrong-length, made}
use Rattle.table.proofs.blanking.blank.Goals as goal
use Rattle.table.proofs.blanking.blank.Goals.{then-count-lt1-via-then-count-lt1, then-count-lt1-via-else-count-lt1+then-count-gt-MOST_RECORDS}
use native.Mathlib.Omega.{arith}

pub returns-then-count-lt1 : goal.returns-then-count-lt1
returns-then-count-lt1 c =
    elim c.then-count-lt1.branch [
      | then-count-lt1-via-then-count-lt1 w ↦ too_few c.args.out.now c.args.count w.if-count-lt1.true
      | then-count-lt1-via-else-count-lt1+then-count-gt-MOST_RECORDS w ↦
          too_many c.args.out.now c.args.count (omega arith) w.if-count-gt-MOST_RECORDS.true
    ]

pub returns-then-out-n : goal.returns-then-out-n
returns-then-out-n c =
    wrong-length c.args.out.now c.args.count (omega arith) (omega arith) c.if-out-n.true

pub returns : goal.returns
returns c =
    made c.args.out.now c.args.count
    c.if-count-lt1.false
    c.if-count-gt-MOST_RECORDS.false
    c.if-out-n.false
    c.header-h.ensures
    c.put.ensures.1 c.clear.ensures
