-- `particulars::fields::live_fault` meets its contract, by its definition. Assumes nothing.
use Rattle.particulars.proofs.fields.live_fault.Goals as goal
use Rattle.particulars.specs.Fields.{live_faults}

pub returns : goal.returns
unfolding live_faults
returns c = c.object.ensures
