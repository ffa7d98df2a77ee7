-- `keeper::steps::find_call` meets its contract. As the Call-ID is spelled, and else decoded, which fits the buffer. Assumes nothing.
use Rattle.keeper.proofs.TextLaws.{call-text, named-own, unescaped}
use Rattle.keeper.proofs.steps.find_call.Goals as goal
use mathlib.Core.Path.{sym, ◌∙◌}

pub returns-in-Some : goal.returns-in-Some
returns-in-Some c =
    sym c.in-Some.is ∙ c.find.ensures
    ∙ named-own c.args.s.now c.args.m c.call_id-w.ensures c.args.t.now c.requires.0
    (sym c.find.ensures ∙ c.in-Some.is)

pub returns-then-not-is_escaped : goal.returns-then-not-is_escaped
returns-then-not-is_escaped c =
    sym c.in_default.is ∙ c.find.ensures
    ∙ unescaped c.args.s.now c.args.m c.call_id-w.ensures c.args.t.now (sym c.is_escaped.ensures ∙ c.if-not-is_escaped.true)

pub returns : goal.returns
returns c = rw (c.find-2.ensures, call-text c.args.s.now c.args.m c.requires.1 (c.text.ensures ∙ c.of-named.ensures) c.call_id-w.ensures)
