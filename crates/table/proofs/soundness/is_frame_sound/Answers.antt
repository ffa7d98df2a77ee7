-- `table::soundness::is_frame_sound` meets its contract. One law for each way out. Assumes nothing.
use Rattle.table.proofs.SoundLaws.{frame-few, frame-many, frame-length, frame_header}
use Rattle.table.proofs.soundness.is_frame_sound.Goals as goal
use Rattle.table.proofs.soundness.is_frame_sound.Goals.{then-n-lt1-via-then-n-lt1, then-n-lt1-via-else-n-lt1+then-n-gt-MOST_RECORDS}
use Rattle.table.proofs.soundness.is_frame_sound.Goals.{then-n-lt1-via-else-n-lt1+else-n-gt-MOST_RECORDS+then-t-n}
use native.Mathlib.Omega.{arith}

pub returns-then-n-lt1 : goal.returns-then-n-lt1
returns-then-n-lt1 c =
    elim c.then-n-lt1.branch [
      | then-n-lt1-via-then-n-lt1 w ↦ frame-few c.args.t.now c.record_count-n.result c.record_count-n.ensures (omega arith)
      | then-n-lt1-via-else-n-lt1+then-n-gt-MOST_RECORDS w ↦ frame-many c.args.t.now c.record_count-n.result c.record_count-n.ensures (omega arith)
      | then-n-lt1-via-else-n-lt1+else-n-gt-MOST_RECORDS+then-t-n w ↦ frame-length c.args.t.now c.record_count-n.result c.record_count-n.ensures w.if-t-n.true
    ]

pub returns : goal.returns
returns c =
    frame_header c.args.t.now
    c.record_count-n.result
    c.record_count-n.ensures (omega arith) (omega arith)
    c.if-t-n.false c.header-h.ensures c.same.ensures
