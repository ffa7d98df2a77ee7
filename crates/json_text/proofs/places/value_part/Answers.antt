-- The part up to the end that was found. Assumes nothing.
use Rattle.json_text.proofs.places.value_part.Goals as goal
use Rattle.json_text.specs.Places.{part}
use mathlib.Core.Path.{ap, ◌∙◌}

pub returns : goal.returns
returns c = let l = c.args in c.part.ensures ∙ ap (part l.s.now l.v) c.behind-e.ensures.is
