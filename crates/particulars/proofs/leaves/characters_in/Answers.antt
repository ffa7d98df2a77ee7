-- `particulars::leaves::characters_in` meets its contract. One law of `LeafLaws` for each way out. Assumes nothing.
use Rattle.particulars.proofs.LeafLaws.{broken-characters, measured-characters, not-string, plain-characters}
use Rattle.particulars.proofs.leaves.characters_in.Goals as goal
use mathlib.Core.Path.{sym, ◌∙◌}

pub returns-then-not-is_string : goal.returns-then-not-is_string
returns-then-not-is_string c = not-string c.args.v.now (sym c.is_string.ensures ∙ c.if-not-is_string.true)

pub returns-then-not-is_escaped : goal.returns-then-not-is_escaped
returns-then-not-is_escaped c =
    plain-characters c.args.v.now (sym c.is_string.ensures ∙ c.if-not-is_string.false) c.own_spelling-w.ensures
    (sym c.is_escaped.ensures ∙ c.if-not-is_escaped.true) c.points.ensures

pub returns-then-m : goal.returns-then-m
returns-then-m c =
    broken-characters c.args.v.now (sym c.is_string.ensures ∙ c.if-not-is_string.false) c.own_spelling-w.ensures c.measure-m.ensures c.if-m.true

pub returns-else-m : goal.returns-else-m
returns-else-m c =
    measured-characters c.args.v.now (sym c.is_string.ensures ∙ c.if-not-is_string.false) c.own_spelling-w.ensures c.measure-m.ensures c.if-m.false
