-- `fields::holders::particulars_fault` meets its contract: of the three fields the third is Body. Assumes nothing.
use Rattle.fields.proofs.JudgingLaws.{live-particulars}
use Rattle.fields.proofs.holders.particulars_fault.Goals as goal
use mathlib.Core.Path.{◌∙◌}
use native.Mathlib.Omega.{arith}

pub returns-in_default : goal.returns-in_default
returns-in_default c = c.live_fault.ensures ∙ live-particulars c.args.k c.args.n c.args.v.now c.requires (λ e. omega (arith, c.in_default, e)) (λ e. omega (arith, c.in_default, e))
