use Rattle.table.proofs.ImageLaws.{is_free_lem, not_free}
use Rattle.table.proofs.SearchLaws.{at-lowest, none-lowest}
use Rattle.table.proofs.searching.free_place.Goals as goal
use Rattle.table.specs.Image.{record_count, record_at}
use Rattle.table.specs.Record.{is_free}
use Rattle.table.specs.Search.{free_place}
use borrow.Author.Count.{below_more}
use mathlib.Core.Bool.{false}
use mathlib.Core.Path.{◌≡◌}
use native.Mathlib.Omega.{arith}

pub loop-k-init : goal.loop-k-init
loop-k-init c = λ l h. absurd (omega arith)

pub returns-then-t-p-eq0 : goal.returns-then-t-p-eq0
unfolding free_place
returns-then-t-p-eq0 c =
    at-lowest (λ k. is_free (record_at c.args.t.now k)) (record_count c.args.t.now) c.loop-k.k (omega arith)
    (is_free_lem c.args.t.now c.loop-k.k c.if-t-p-eq0.true) c.loop-k.invariant

pub loop-k-preserved : goal.loop-k-preserved
loop-k-preserved c =
    below_more (λ k. is_free (record_at c.args.t.now k) ≡ false) c.loop-k.k c.loop-k.invariant
    (not_free c.args.t.now c.loop-k.k c.if-t-p-eq0.false)

pub returns : goal.returns
unfolding free_place
returns c = none-lowest _ (record_count c.args.t.now) (λ l h. c.loop-k.invariant l (omega arith))
