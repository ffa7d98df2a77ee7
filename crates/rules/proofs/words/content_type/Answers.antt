-- `words::content_type` meets its contract: a NOTIFY's types stand behind a MESSAGE's. Assumes nothing.
use Rattle.rules.proofs.NameLaws.{number-before, number_behind}
use Rattle.rules.proofs.words.content_type.Goals as goal
use Rattle.rules.specs.Words.{message_types, notify_types}
use mathlib.Core.Path.{sym, ◌∙◌}
use native.Mathlib.Omega.{arith}

pub returns-then-k-eq0 : goal.returns-then-k-eq0
returns-then-k-eq0 c =
    c.notify_type.ensures ∙ sym (number_behind message_types notify_types 1 _ (omega arith) (sym c.message_type-k.ensures ∙ c.if-k-eq0.true))

pub returns-else-k-eq0 : goal.returns-else-k-eq0
returns-else-k-eq0 c =
    c.message_type-k.ensures ∙ sym (number-before message_types notify_types 1 _ (λ e. c.if-k-eq0.false (c.message_type-k.ensures ∙ e)))
