use Rattle.json_text.proofs.RunLaws.{seen_none, seen_more, seen_all}
use Rattle.json_text.proofs.strings.plain_of_32.Goals as goal
use borrow.Author.Rules.{rules}

pub loop-k-init : goal.loop-k-init
loop-k-init c = (search rules, seen_none _ _)

pub loop-k-preserved : goal.loop-k-preserved
loop-k-preserved c = (
  search rules,
  rw (c.least_of-m.ensures, c.rank_of.ensures) (seen_more _ _ _ _ (search rules) c.loop-k.invariant.1),
)

pub returns : goal.returns
returns c = seen_all _ _ _ _ (search rules) c.loop-k.invariant.1
