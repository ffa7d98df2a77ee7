-- `pieces::mark` meets its contract, by what one byte at a place means. Assumes nothing.
use Rattle.rules.proofs.PieceLaws.{stands_one}
use Rattle.rules.proofs.pieces.mark.Goals as goal
use borrow.Author.Rules.{rules}

pub returns : goal.returns
returns c = rw (stands_one c.args.s.now c.args.at c.args.b (search rules)) (cc)
