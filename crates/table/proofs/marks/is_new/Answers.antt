-- `table::marks::is_new` meets its contract. A free record is apart from all; texts of two marks differ; else the Call-IDs were compared. Assumes nothing.
use Rattle.table.proofs.ImageLaws.{is_free_lem}
use Rattle.table.proofs.MarkLaws.{free-apart-before, unmarked-apart}
use Rattle.table.proofs.marks.is_new.Goals as goal
use Rattle.table.proofs.marks.is_new.Goals.{then-t-k-eq0, else-t-k-eq0}
use borrow.Author.Tests.{not-true}
use mathlib.Core.Path.{sym, ◌∙◌}

pub returns-then-not-is_marked : goal.returns-then-not-is_marked
returns-then-not-is_marked c =
    c.if-not-is_marked.true ∙ elim c.if-t-k-eq0.branch [
      | then-t-k-eq0 w ↦ free-apart-before c.args.t.now c.args.k (is_free_lem c.args.t.now c.args.k w.if-t-k-eq0.true)
      | else-t-k-eq0 w ↦
          unmarked-apart c.args.t.now c.args.marks.now c.args.k c.args.m c.requires.3 c.requires.2
          (sym w.is_marked.ensures ∙ not-true _ (sym w.value-is ∙ c.if-not-is_marked.true))
    ]
