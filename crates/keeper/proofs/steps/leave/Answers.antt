-- `keeper::steps::leave` meets its contract. Each arm puts in what becomes of the record, and takes what its store ensures. Assumes nothing.
use Rattle.keeper.proofs.steps.leave.Goals as goal
use mathlib.Core.Path.{sym}

pub returns-in-Set : goal.returns-in-Set
returns-in-Set c = rw (c.in-Set.is, sym c.fields_from.ensures) c.store.ensures

pub returns-in-Free : goal.returns-in-Free
returns-in-Free c = rw c.in-Free.is c.release.ensures
