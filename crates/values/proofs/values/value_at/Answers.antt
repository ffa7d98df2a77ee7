-- `values::values::value_at` meets its contract. By its definition and what the callees ensure. Assumes nothing.
use Rattle.json_text.specs.Places.{part}
use Rattle.values.proofs.values.value_at.Goals as goal
use mathlib.Core.Path.{ap, ◌∙◌}
use native.Mathlib.Omega.{arith}

pub returns : goal.returns
returns c = c.part.ensures ∙ ap (part c.args.s.now c.args.v) (c.requires (omega (arith, c.if-e-eq0.false)))
