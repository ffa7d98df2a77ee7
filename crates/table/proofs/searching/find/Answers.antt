use Rattle.table.proofs.SearchLaws.{at-lowest, none-lowest}
use Rattle.table.proofs.searching.find.Goals as goal
use Rattle.table.specs.Image.{record_count, record_at}
use Rattle.table.specs.Record.{is_named}
use Rattle.table.specs.Search.{place_named}
use borrow.Author.Count.{below_more}
use mathlib.Core.Bool.{false}
use mathlib.Core.Path.{◌≡◌}
use native.Mathlib.Omega.{arith}

pub loop-k-init : goal.loop-k-init
loop-k-init c = λ l h. absurd (omega arith)

pub returns-then-is_named : goal.returns-then-is_named
unfolding place_named
returns-then-is_named c =
    at-lowest (λ k. is_named c.args.id.now (record_at c.args.t.now k)) (record_count c.args.t.now) c.loop-k.k (omega arith) (cc)
    c.loop-k.invariant

pub loop-k-preserved : goal.loop-k-preserved
loop-k-preserved c =
    below_more (λ k. is_named c.args.id.now (record_at c.args.t.now k) ≡ false) c.loop-k.k
    c.loop-k.invariant (cc)

pub returns : goal.returns
unfolding place_named
returns c =
    none-lowest _ (record_count c.args.t.now) (λ l h. c.loop-k.invariant l (omega arith))
