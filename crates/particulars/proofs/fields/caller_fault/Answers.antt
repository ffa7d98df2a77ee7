-- `particulars::fields::caller_fault` meets its contract, by its definition. Assumes nothing.
use Rattle.particulars.proofs.fields.caller_fault.Goals as goal
use Rattle.particulars.specs.Fields.{caller_faults}

pub returns : goal.returns
unfolding caller_faults
returns c = c.object.ensures
