-- `values::call_id_reach` meets its contract: behind the run stands the end. Assumes nothing.
use Rattle.letters.proofs.JoinLaws.{run_alone}
use Rattle.letters.proofs.values.call_id_reach.Goals as goal
use Rattle.letters.specs.inner.Reach.{call_id_reach, reach_of}
use mathlib.Core.Path.{◌∙◌}

pub returns : goal.returns
unfolding call_id_reach reach_of
returns c = c.run_letters.ensures.0 ∙ run_alone 2 64 _ _ 0 _ c.args.s.now
