-- By what `skip` ensures. Assumes nothing.
use Rattle.json_text.proofs.SpaceLaws.{spaces-passed}
use Rattle.json_text.proofs.spaces.past_spaces.Goals as goal
use borrow.Author.Rules.{rules}

pub returns : goal.returns
returns c = spaces-passed c.skip.ensures (search rules)
