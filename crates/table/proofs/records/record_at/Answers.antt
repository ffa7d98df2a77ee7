-- `table::records::record_at` meets its contract. The part that is cut is the record. Assumes nothing.
use Rattle.table.proofs.ImageLaws.{length_record, cut}
use Rattle.table.proofs.records.record_at.Goals as goal
use Rattle.table.specs.Image.{base}
use lib.ListN.{length}
use mathlib.Core.Path.{ap, ◌∙◌}

pub returns : goal.returns
returns c = (
  cut c.args.t.now (base c.args.k) 160,
  ap length
      (cut c.args.t.now (base c.args.k) 160) ∙ length_record c.args.t.now c.args.k
      c.requires,
)
