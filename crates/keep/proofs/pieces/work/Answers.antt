use Rattle.keep.proofs.WorkLaws.{buffered-goes, here-goes, pending-goes}
use Rattle.keep.proofs.pieces.work.Goals as goal
use Rattle.lines.proofs.Cutting.{buffered-says, here-says, pending-says, short}
use Rattle.lines.proofs.WorkLaws.{nothing}
use Rattle.lines.specs.inner.Splitting.{rest_of_line}
use borrow.Author.Rules.{rules}
use lib.ListN.{drop, length, take}
use mathlib.Core.List.{◌++◌}
use mathlib.Core.Path.{refl, sym, ◌∙◌}
use native.Mathlib.Omega.{arith}

pub loop-out-init : goal.loop-out-init
loop-out-init c = (nothing _ _ _ _ _, search rules, refl, refl, refl, omega arith, omega arith, omega arith, omega arith, omega arith)

pub slice_bounds-answer-count : goal.slice_bounds-answer-count
slice_bounds-answer-count c =
    omega (
      arith,
      here-says c.loop-out.line c.loop-out.len c.args.s.now c.loop-out.from c.in-Here.e
          (sym c.next_line.ensures.0 ∙ c.in-Here.is),
    )

pub slice_bounds-answer-start : goal.slice_bounds-answer-start
slice_bounds-answer-start c =
    omega (
      arith,
      here-says c.loop-out.line c.loop-out.len c.args.s.now c.loop-out.from c.in-Here.e
          (sym c.next_line.ensures.0 ∙ c.in-Here.is),
    )

pub slice_bounds-answer-end : goal.slice_bounds-answer-end
slice_bounds-answer-end c =
    omega (
      arith,
      here-says c.loop-out.line c.loop-out.len c.args.s.now c.loop-out.from c.in-Here.e
          (sym c.next_line.ensures.0 ∙ c.in-Here.is),
    )

pub overflow_add-from : goal.overflow_add-from
overflow_add-from c =
    omega (
      arith,
      here-says c.loop-out.line c.loop-out.len c.args.s.now c.loop-out.from c.in-Here.e
          (sym c.next_line.ensures.0 ∙ c.in-Here.is),
    )

pub loop-out-smaller-in-Here : goal.loop-out-smaller-in-Here
loop-out-smaller-in-Here c =
    omega (
      arith,
      here-says c.loop-out.line c.loop-out.len c.args.s.now c.loop-out.from c.in-Here.e
          (sym c.next_line.ensures.0 ∙ c.in-Here.is),
    )

pub loop-out-preserved-in-Here : goal.loop-out-preserved-in-Here
loop-out-preserved-in-Here c =
    let l = c.loop-out in
    let x = c.args in
    let e = c.in-Here.e in
    let q = sym c.next_line.ensures.0 ∙ c.in-Here.is in
    let p = here-says l.line l.len x.s.now l.from e q in
    let a = c.answer-at.ensures in (
      here-goes (length x.line.now) x.table.now (take x.len0 x.line.now) (drop x.from0 x.s.now) l.table l.line l.invariant.3 (omega arith) l.len
          x.s.now l.from l.out l.at l.invariant.5 l.invariant.0 e q a.0 a.1 a.2,
      a.3,
      search rules,
      search rules,
      search rules,
      omega (arith, a.4),
      omega arith,
      omega (arith, p.0),
      omega (arith, p.0, p.1),
      omega (arith, p.0, a.4),
    )

pub answer_kept-at-requires : goal.answer_kept-at-requires
answer_kept-at-requires c =
    let p = buffered-says c.loop-out.line c.loop-out.len c.args.s.now c.loop-out.from c.in-Buffered.n c.in-Buffered.next
    (sym c.next_line.ensures.0 ∙ c.in-Buffered.is) in (
      c.loop-out.invariant.1,
      omega arith,
      omega (arith, p.0, short (length c.loop-out.line) (take c.loop-out.len c.loop-out.line ++ rest_of_line c.args.s.now c.loop-out.from)),
    )

pub loop-out-smaller : goal.loop-out-smaller
loop-out-smaller c =
    omega (
      arith,
      buffered-says c.loop-out.line c.loop-out.len c.args.s.now c.loop-out.from c.in-Buffered.n c.in-Buffered.next
          (sym c.next_line.ensures.0 ∙ c.in-Buffered.is),
    )

pub loop-out-preserved : goal.loop-out-preserved
loop-out-preserved c =
    let l = c.loop-out in
    let x = c.args in
    let m = c.in-Buffered.n in
    let e = c.in-Buffered.next in
    let q = sym c.next_line.ensures.0 ∙ c.in-Buffered.is in
    let p = buffered-says l.line l.len x.s.now l.from m e q in
    let a = c.answer_kept-at.ensures in (
      buffered-goes (length x.line.now) x.table.now (take x.len0 x.line.now) (drop x.from0 x.s.now) l.table l.line l.invariant.3 (omega arith) l.len
          x.s.now l.from l.out l.at l.invariant.5 l.invariant.0 m e _ q c.next_line.ensures.1 a.0 a.1 a.2,
      a.3,
      search rules,
      search rules,
      search rules,
      omega (arith, a.4),
      omega arith,
      omega (arith, p.1),
      omega (arith, p.1, p.2),
      omega (arith, p.1, a.4),
    )

pub returns-in-Pending : goal.returns-in-Pending
returns-in-Pending c =
    let l = c.loop-out in
    let x = c.args in
    let n = c.in-Pending.n in
    let q = sym c.next_line.ensures.0 ∙ c.in-Pending.is in
    let p = pending-says l.line l.len x.s.now l.from n q in (
      pending-goes (length x.line.now) x.table.now (take x.len0 x.line.now) (drop x.from0 x.s.now) l.table l.line l.invariant.3 (omega arith) l.len
          x.s.now l.from l.out l.at l.invariant.5 l.invariant.0 n _ q c.next_line.ensures.1,
      l.invariant.1,
      omega arith,
      omega (arith, p.0, short (length l.line) (take l.len l.line ++ rest_of_line x.s.now l.from)),
      omega arith,
      omega arith,
      λ h. absurd (omega (arith, h)),
    )

pub returns : goal.returns
returns c =
    let l = c.loop-out in
    (l.invariant.0, l.invariant.1, omega arith, omega arith, omega arith, omega arith, λ h. omega arith)
