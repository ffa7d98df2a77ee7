-- `writing::replies::is_unanswered` meets its contract. Assumes nothing.
use Rattle.writing.proofs.replies.is_unanswered.Goals as goal
use Rattle.writing.specs.Reply.{unanswered}
use borrow.Author.Tests.{eq-eqb, ne_eqb}

pub returns-then-m-ne1 : goal.returns-then-m-ne1
unfolding unanswered
returns-then-m-ne1 c = rw (ne_eqb c.args.m.tag 1 c.if-m-ne1.true)

pub returns-else-m-ne1 : goal.returns-else-m-ne1
unfolding unanswered
returns-else-m-ne1 c = rw (eq-eqb c.args.m.tag 1 c.if-m-ne1.false)
