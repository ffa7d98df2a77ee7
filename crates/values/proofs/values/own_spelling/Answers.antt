-- `values::values::own_spelling` meets its contract. By its definition and what the callees ensure. Assumes nothing.
use Rattle.values.proofs.SpellingLaws.{spelling-short, spelling-long}
use Rattle.values.proofs.values.own_spelling.Goals as goal
use mathlib.Core.Path.{refl, ◌∙◌}

pub returns-then-n-lt2 : goal.returns-then-n-lt2
returns-then-n-lt2 c = c.part.ensures ∙ spelling-short c.args.v.now c.requires c.if-n-lt2.true

pub returns : goal.returns
returns c = spelling-long c.args.v.now c.requires refl
