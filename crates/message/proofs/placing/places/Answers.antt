-- `message::placing::places` meets its contract: an accepted message has its shape, and no known name twice. Assumes nothing.
use Rattle.message.proofs.PlacingLaws.{all-gathered, no-tag}
use Rattle.message.proofs.placing.places.Goals as goal
use mathlib.Core.Path.{◌∙◌}

pub returns-in-None : goal.returns-in-None
returns-in-None c k m e = no-tag k c.args.s.now m e c.in-None.ensures

pub gather-requires : goal.gather-requires
gather-requires c = c.in-Some.ensures.1.inside

pub returns-in-Some : goal.returns-in-Some
returns-in-Some c k m e = c.unwrap_or.ensures ∙ all-gathered k c.args.s.now m e _ c.in-Some.ensures.1.opens c.gather.ensures
