-- `writing::replies::is_wrong_code` meets its contract. Assumes nothing.
use Rattle.writing.proofs.replies.is_wrong_code.Goals as goal
use Rattle.writing.specs.Reply.{wrong_code}
use borrow.Author.Tests.{eq-eqb, ne_eqb}

pub returns-then-not-is_listed : goal.returns-then-not-is_listed
unfolding wrong_code
returns-then-not-is_listed c = rw (← c.is_listed.ensures, c.if-not-is_listed.true)

pub returns-then-code-eq202 : goal.returns-then-code-eq202
unfolding wrong_code
returns-then-code-eq202 c = rw (← c.is_listed.ensures, c.if-not-is_listed.false, eq-eqb c.args.code 202 c.if-code-eq202.true)

pub returns-else-code-eq202 : goal.returns-else-code-eq202
unfolding wrong_code
returns-else-code-eq202 c = rw (← c.is_listed.ensures, c.if-not-is_listed.false, ne_eqb c.args.code 202 c.if-code-eq202.false)
