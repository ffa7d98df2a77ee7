-- `fields::judging::is_status` meets its contract. It takes what its callees ensure. Assumes nothing.
use Rattle.fields.proofs.FieldLaws.{status-found}
use Rattle.fields.proofs.judging.is_status.Goals as goal
use Rattle.std.proofs.Common.{arith}

pub returns : goal.returns
returns c = grind (arith, status-found c.args.t.now)
