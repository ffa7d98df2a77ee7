-- Without a backslash the bytes are the text. Assumes nothing.
use Rattle.escapes.proofs.PlainLaws.{plain-spells}
use Rattle.escapes.proofs.comparing.spells.Goals as goal
use mathlib.Core.Path.{sym, ◌∙◌}

pub returns : goal.returns
returns c =
    let x = c.args in
    c.same.ensures ∙ plain-spells x.raw.now x.w.now (sym c.is_escaped.ensures ∙ c.if-is_escaped.false)
