-- `table::soundness::is_record_sound` meets its contract. A record whose state is 0 cannot be in use, and one whose state is not 0 cannot be all 00. Assumes nothing.
use Rattle.table.proofs.SoundLaws.{record_free, record_used}
use Rattle.table.proofs.soundness.is_record_sound.Goals as goal

pub returns-then-r-eq0 : goal.returns-then-r-eq0
returns-then-r-eq0 c = record_free c.args.r.now c.if-r-eq0.true c.all_zero.ensures

pub returns-else-r-eq0 : goal.returns-else-r-eq0
returns-else-r-eq0 c = record_used c.args.r.now c.if-r-eq0.false c.is_used_sound.ensures
