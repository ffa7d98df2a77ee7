-- `table::records::release` meets its contract. What is cleared is the record. Assumes nothing.
use Rattle.table.proofs.ImageLaws.{released}
use Rattle.table.proofs.records.release.Goals as goal
use mathlib.Core.Path.{◌∙◌}

pub returns : goal.returns
returns c =
    c.clear.ensures ∙ released c.args.t.now c.args.k
