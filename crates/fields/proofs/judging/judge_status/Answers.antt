-- `fields::judging::judge_status` meets its contract. One law of `JudgingLaws` for each way out. Assumes nothing.
use Rattle.fields.proofs.JudgingLaws.{status-untold, code-told}
use Rattle.fields.proofs.judging.judge_status.Goals as goal
use Rattle.values.proofs.ValueLaws.{text-is}
use mathlib.Core.Path.{sym, ◌∙◌}

pub returns-then-not-is_string : goal.returns-then-not-is_string
returns-then-not-is_string c = status-untold c.args.v.now (sym c.is_string.ensures ∙ c.if-not-is_string.true)

pub returns : goal.returns
returns c = c.ok_or.ensures.value ∙ code-told c.args.v.now _ (sym c.is_string.ensures ∙ c.if-not-is_string.false)
    (text-is c.args.v.now c.own_spelling.ensures) c.status_of.ensures
