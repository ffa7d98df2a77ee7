-- 255 blank records are made. Assumes nothing.
use Rattle.keep.proofs.LogLaws.{starts}
use Rattle.keep.proofs.start.Goals as goal
use borrow.Author.Rules.{rules}
use lib.ListN.{length}
use mathlib.Core.Path.{◌≡◌}

pub returns : goal.returns
returns c =
    let o = c.args.table.now in
    let l : length o ≡ 40816 = search rules in
    starts o l c.blank.ensures.1
