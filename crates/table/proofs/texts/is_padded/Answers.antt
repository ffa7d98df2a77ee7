-- `table::texts::is_padded` meets its contract. The part that is tested is what the text leaves of its room. Assumes nothing.
use Rattle.table.proofs.SlotLaws.{rest-zero, not-padded}
use Rattle.table.proofs.texts.is_padded.Goals as goal
use borrow.Author.Tests.{lt-leb}
use mathlib.Core.Path.{◌∙◌}

pub returns-then-n-room : goal.returns-then-n-room
returns-then-n-room c =
    c.all_zero.ensures ∙ rest-zero c.args.r.now c.args.at c.args.room c.from-n.result c.requires c.from-n.ensures c.if-n-room.true

pub returns-else-n-room : goal.returns-else-n-room
returns-else-n-room c =
    lt-leb c.from-n.result c.args.room c.if-n-room.false
    ∙ not-padded c.args.r.now c.args.at c.args.room c.from-n.result c.requires c.from-n.ensures c.if-n-room.false
