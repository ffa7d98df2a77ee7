-- `fields::judging::is_via` meets its contract. Assumes nothing.
use Rattle.fields.proofs.JudgingLaws.{via-found}
use Rattle.fields.proofs.judging.is_via.Goals as goal
use Rattle.std.specs.Result.{is_ok}
use mathlib.Core.Path.{ap, ◌∙◌}

pub returns : goal.returns
returns c = let h = c.is_ok.ensures.value in c.is_ok.ensures.value ∙ ap is_ok c.judge_via.ensures ∙ via-found c.args.v.now
