-- `table::records::fields_at` meets its contract. By what its calls ensure. Assumes nothing.
use Rattle.table.proofs.records.fields_at.Goals as goal

pub returns : goal.returns
returns c = cc
