-- What the reader of strings answers is the machine's answer. Assumes nothing.
use Rattle.json_text.proofs.PassLaws.{string-told}
use Rattle.json_text.proofs.passing.pass_string.Goals as goal
use mathlib.Core.Path.{◌∙◌}

pub returns : goal.returns
returns c = c.ok.ensures.value ∙ string-told c.requires.0 c.requires.1 c.string.ensures
