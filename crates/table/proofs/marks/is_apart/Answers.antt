-- `table::marks::is_apart` meets its contract. One law for each way out. Assumes nothing.
use Rattle.octets.specs.Text.{same}
use Rattle.table.proofs.RecordLaws.{apart-first, apart-second, apart-texts}
use Rattle.table.proofs.RoomLaws.{rooms-apart}
use Rattle.table.proofs.SoundLaws.{through-both}
use Rattle.table.proofs.marks.is_apart.Goals as goal
use Rattle.table.proofs.marks.is_apart.Goals.{then-not-same_at_once-via-then-not-same_at_once, then-not-same_at_once-via-else-not-same_at_once+then-r-eq0}
use Rattle.table.proofs.marks.is_apart.Goals.{then-not-same_at_once-via-else-not-same_at_once+else-r-eq0+then-s-eq0}
use borrow.Author.Rules.{rules}

pub returns-then-not-same_at_once : goal.returns-then-not-same_at_once
returns-then-not-same_at_once c =
    elim c.then-not-same_at_once.branch [
      | then-not-same_at_once-via-then-not-same_at_once w ↦
          rooms-apart c.args.r.now c.args.s.now c.requires.0 c.requires.1 c.requires.2 c.requires.3
          (through-both same c.same_at_once.ensures c.call_id_room.ensures.0 c.call_id_room-2.ensures.0 (search rules))
      | then-not-same_at_once-via-else-not-same_at_once+then-r-eq0 w ↦ apart-first c.args.r.now c.args.s.now w.if-r-eq0.true
      | then-not-same_at_once-via-else-not-same_at_once+else-r-eq0+then-s-eq0 w ↦ apart-second c.args.r.now c.args.s.now w.if-r-eq0.false w.if-s-eq0.true
    ]

pub returns : goal.returns
returns c =
    apart-texts c.args.r.now c.args.s.now c.if-r-eq0.false
    c.if-s-eq0.false c.text.ensures c.text-2.ensures c.same.ensures
