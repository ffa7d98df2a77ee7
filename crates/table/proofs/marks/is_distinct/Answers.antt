use Rattle.table.proofs.MarkLaws.{marks-none, marks-more, mark_of_lem}
use Rattle.table.proofs.SearchLaws.{all-every, every-stops}
use Rattle.table.proofs.marks.is_distinct.Goals as goal
use Rattle.table.specs.Image.{record_count}
use Rattle.table.specs.WellFormed.{apart_before, distinct}
use borrow.Author.Count.{below_more}
use borrow.Author.Rules.{rules}
use borrow.Author.Tests.{not-true, not-false}
use lib.ListN.{length-set}
use mathlib.Core.Bool.{true}
use mathlib.Core.Path.{◌≡◌, refl, sym, ◌∙◌}
use native.Mathlib.Omega.{arith}

pub loop-k-init : goal.loop-k-init
loop-k-init c = (refl, marks-none c.args.t.now _, λ j h. absurd (omega arith))

pub is_new-requires : goal.is_new-requires
is_new-requires c = (
  omega arith,
  omega arith,
  mark_of_lem c.mark-m.ensures c.text.ensures
      c.record_at.ensures.0,
  c.loop-k.invariant.1,
  search rules,
)

pub returns-then-not-is_new : goal.returns-then-not-is_new
unfolding distinct
returns-then-not-is_new c =
    sym (every-stops (apart_before c.args.t.now) (record_count c.args.t.now)
    c.loop-k.k (omega arith)
    (sym c.is_new.ensures ∙ not-true _ c.if-not-is_new.true-raw))

pub loop-k-preserved : goal.loop-k-preserved
loop-k-preserved c = (
  simp length-set c.loop-k.invariant.0,
  marks-more c.args.t.now c.loop-k.marks c.loop-k.k
      c.loop-k.invariant.1 (omega arith) (mark_of_lem c.mark-m.ensures
      c.text.ensures c.record_at.ensures.0),
  below_more
      (λ j. apart_before c.args.t.now j ≡ true) c.loop-k.k c.loop-k.invariant.2
      (sym c.is_new.ensures ∙ not-false _ c.if-not-is_new.false-raw),
)

pub returns : goal.returns
unfolding distinct
returns c = sym (all-every _ (record_count c.args.t.now) (λ j h. c.loop-k.invariant.2 j (omega arith)))
