-- `table::texts::clear` meets its contract. The part is filled where it stands. Assumes nothing.
use Rattle.table.proofs.SpliceLaws.{cleared}
use borrow.Author.Rules.{rules}
use Rattle.table.proofs.texts.clear.Goals as goal

pub returns : goal.returns
returns c =
    cleared c.args.out.now c.args.from c.args.to c.requires.0 c.requires.1 (c.fill.ensures.after (λ y e. search rules))
