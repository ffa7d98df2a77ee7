-- The part up to the closing quote; nothing behind the text. Assumes nothing.
use Rattle.json_text.proofs.PlaceLaws as laws
use Rattle.json_text.proofs.places.name_part.Goals as goal
use mathlib.Core.Path.{sym, ◌∙◌}

pub returns-then-s-q : goal.returns-then-s-q
returns-then-s-q c = let l = c.args in sym (laws.raw-outside l.s.now l.q c.if-s-q.true)

pub returns : goal.returns
returns c = let l = c.args in c.part.ensures ∙ laws.raw-is l.s.now l.q c.closing-e.ensures
