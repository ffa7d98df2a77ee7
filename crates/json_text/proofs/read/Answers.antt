-- A whole text: each exit is one law. Assumes nothing.
use Rattle.json_text.proofs.ReadLaws.{read-text, read-room, read-trail, read-fault, read-high}
use Rattle.json_text.proofs.read.Goals as goal
use borrow.Author.Rules.{rules}
use mathlib.Core.Path.{sym, subst}
use Rattle.json_text.proofs.MoveLaws.{raised}
use Rattle.json_text.specs.Verdict.{Verdict}

pub past_spaces-i-requires : goal.past_spaces-i-requires
past_spaces-i-requires c = read-high _ _ c.value.ensures c.in_ok-e.was

pub overflow_sub-result : goal.overflow_sub-result
overflow_sub-result c = read-room _ _ c.value.ensures c.in_ok-e.was c.past_spaces-i.ensures (search rules)

pub returns : goal.returns
returns c = read-text _ _ c.value.ensures c.in_ok-e.was c.past_spaces-i.ensures (search rules)

pub returns-then-i-s : goal.returns-then-i-s
returns-then-i-s c = read-trail _ _ c.value.ensures c.in_ok-e.was c.past_spaces-i.ensures (search rules)

pub returns-in_err-e : goal.returns-in_err-e
returns-in_err-e c = subst (Verdict _ _) (sym (raised c.from_residual.ensures.1)) (read-fault _ _ c.value.ensures c.in_err-e.was)
