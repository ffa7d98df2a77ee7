use Rattle.table.proofs.RoomLaws.{call_id_padded}
use Rattle.table.proofs.SearchLaws.{all-every, every-stops}
use Rattle.table.proofs.SoundLaws.{through-both}
use Rattle.table.proofs.marks.is_apart_before.Goals as goal
use Rattle.table.specs.Image.{record_at}
use Rattle.table.specs.WellFormed.{apart, apart_before}
use borrow.Author.Count.{below_more}
use borrow.Author.Rules.{rules}
use borrow.Author.Tests.{not-true, not-false}
use mathlib.Core.Bool.{true}
use mathlib.Core.Path.{◌≡◌, sym}
use native.Mathlib.Omega.{arith}

pub loop-l-init : goal.loop-l-init
loop-l-init c = λ j h. absurd (omega arith)

pub is_apart-requires : goal.is_apart-requires
is_apart-requires c = (
  search rules,
  search rules,
  call_id_padded c.args.t.now c.args.k c.requires.1 c.requires.0 c.record_at-r.ensures.0,
  call_id_padded c.args.t.now c.loop-l.l c.requires.1 (omega arith) c.record_at.ensures.0,
)

pub returns-then-not-is_apart : goal.returns-then-not-is_apart
unfolding apart_before
returns-then-not-is_apart c =
    sym (every-stops (λ l. apart (record_at c.args.t.now c.args.k) (record_at c.args.t.now l)) c.args.k
    c.loop-l.l (omega arith)
    (through-both apart c.is_apart.ensures c.record_at-r.ensures.0
    c.record_at.ensures.0 (not-true _ c.if-not-is_apart.true-raw)))

pub loop-l-preserved : goal.loop-l-preserved
loop-l-preserved c =
    below_more (λ j. apart (record_at c.args.t.now c.args.k) (record_at c.args.t.now j) ≡ true) c.loop-l.l
    c.loop-l.invariant (through-both apart c.is_apart.ensures
    c.record_at-r.ensures.0 c.record_at.ensures.0
    (not-false _ c.if-not-is_apart.false-raw))

pub returns : goal.returns
unfolding apart_before
returns c = sym (all-every _ c.args.k (λ j h. c.loop-l.invariant j (omega arith)))
