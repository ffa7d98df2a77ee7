-- `particulars::objects::provider_in` meets its contract. Only a location goes by its provider. Assumes nothing.
use Rattle.particulars.proofs.FaultLaws.{location-provider, other-kind}
use Rattle.particulars.proofs.objects.provider_in.Goals as goal
use mathlib.Core.Path.{◌∙◌}

pub returns-in-CallerLocation : goal.returns-in-CallerLocation
returns-in-CallerLocation c = c.provider_under.ensures ∙ location-provider c.args.s.now c.args.f.now.at c.in-CallerLocation.is

pub returns-in_default : goal.returns-in_default
returns-in_default c = other-kind c.args.s.now c.args.f.now.at c.args.t c.in_default.not-CallerLocation
