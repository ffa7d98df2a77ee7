-- Each answer of the splitter by its law. Assumes nothing.
use Prim.Native.Nat.{◌-◌}
use Rattle.lines.proofs.Cutting.{buffered-says, here-says, pending-says, short}
use Rattle.lines.specs.inner.Splitting.{rest_of_line}
use Rattle.probe.proofs.CommandLaws.{answer-fits}
use Rattle.probe.proofs.PieceLaws.{buffered-told, here-told, kept_on}
use Rattle.probe.proofs.piece.Goals as goal
use Rattle.probe.specs.Commands.{line_done}
use Rattle.probe.specs.Effect.{holding}
use borrow.Author.Rules.{rules}
use lib.ListN.{drop, length, take}
use mathlib.Core.List.{◌++◌}
use mathlib.Core.Path.{◌∙◌, ◌≡◌, refl, sym}
use native.Mathlib.Omega.{arith}

pub overflow_add-next : goal.overflow_add-next
overflow_add-next c =
    let x = c.args in
    let e = c.in-Here.e in
    let q = sym c.next_line.ensures.0 ∙ c.in-Here.is in
    let p = here-says x.line.now x.len x.s.now x.from e q in
    omega (arith, p.0, p.1, c.requires.2)

pub slice_bounds-answer-count : goal.slice_bounds-answer-count
slice_bounds-answer-count c =
    let x = c.args in
    let e = c.in-Here.e in
    let q = sym c.next_line.ensures.0 ∙ c.in-Here.is in
    let p = here-says x.line.now x.len x.s.now x.from e q in
    omega (arith, p.0)

pub slice_bounds-answer-start : goal.slice_bounds-answer-start
slice_bounds-answer-start c =
    let x = c.args in
    let e = c.in-Here.e in
    let q = sym c.next_line.ensures.0 ∙ c.in-Here.is in
    let p = here-says x.line.now x.len x.s.now x.from e q in
    omega (arith, p.0)

pub slice_bounds-answer-end : goal.slice_bounds-answer-end
slice_bounds-answer-end c =
    let x = c.args in
    let e = c.in-Here.e in
    let q = sym c.next_line.ensures.0 ∙ c.in-Here.is in
    let p = here-says x.line.now x.len x.s.now x.from e q in
    omega (arith, p.0, p.1)

pub told-requires : goal.told-requires
told-requires c =
    let x = c.args in
    let e = c.in-Here.e in
    let a = c.answer-a.ensures in
    answer-fits x.out.now (line_done (holding x.ceiling (take x.size x.held.now)) (take (e - x.from) (drop x.from x.s.now))).text a.text.0 a.text.1

pub answer_kept-a-requires : goal.answer_kept-a-requires
answer_kept-a-requires c =
    let x = c.args in
    let m = c.in-Buffered.m in
    let e = c.in-Buffered.next in
    let n = c.next_line in
    let q = sym n.ensures.0 ∙ c.in-Buffered.is in
    let p = buffered-says x.line.now x.len x.s.now x.from m e q in (
      c.requires.0,
      omega (arith, p.0, short (length x.line.now) (take x.len x.line.now ++ rest_of_line x.s.now x.from)),
    )

pub told-requires-in-Buffered : goal.told-requires-in-Buffered
told-requires-in-Buffered c =
    let x = c.args in
    let m = c.in-Buffered.m in
    let a = c.answer_kept-a.ensures in
    answer-fits x.out.now (line_done (holding x.ceiling (take x.size x.held.now)) (take m c.next_line.new.line)).text a.text.0 a.text.1

pub returns-in-Here : goal.returns-in-Here
returns-in-Here c =
    let x = c.args in
    let e = c.in-Here.e in
    let q = sym c.next_line.ensures.0 ∙ c.in-Here.is in
    let p = here-says x.line.now x.len x.s.now x.from e q in
    let a = c.answer-a.ensures in
    let r = c.told.ensures in
    let l : length x.line.now ≡ 170001 = search rules in (
      here-told (holding x.ceiling (take x.size x.held.now)) x.line.now l x.len x.s.now x.from e x.out.now _ q a
          (record { ceiling = r.1; table = r.0; none_kept = r.2; next = r.3; handed = r.5 }),
      omega (arith, r.0, a.small),
      omega (arith, r.2),
      omega (arith, r.3, p.0, p.1),
      r.4,
      r.6,
      omega (arith, r.3, p.0),
      r.7,
    )

pub returns-in-Buffered : goal.returns-in-Buffered
returns-in-Buffered c =
    let x = c.args in
    let m = c.in-Buffered.m in
    let e = c.in-Buffered.next in
    let n = c.next_line in
    let q = sym n.ensures.0 ∙ c.in-Buffered.is in
    let p = buffered-says x.line.now x.len x.s.now x.from m e q in
    let a = c.answer_kept-a.ensures in
    let r = c.told-in-Buffered.ensures in
    let l : length x.line.now ≡ 170001 = search rules in (
      buffered-told (holding x.ceiling (take x.size x.held.now)) x.line.now l x.len x.s.now x.from m e x.out.now _ _ q n.ensures.1 a
          (record { ceiling = r.1; table = r.0; none_kept = r.2; next = r.3; handed = r.5 }),
      omega (arith, r.0, a.small),
      omega (arith, r.2),
      omega (arith, r.3, p.1, p.2),
      r.4,
      r.6,
      omega (arith, r.3, p.1),
      r.7,
    )

pub returns-in-Pending : goal.returns-in-Pending
returns-in-Pending c =
    let x = c.args in
    let m = c.in-Pending.m in
    let n = c.next_line in
    let q = sym n.ensures.0 ∙ c.in-Pending.is in
    let p = pending-says x.line.now x.len x.s.now x.from m q in
    let l : length x.line.now ≡ 170001 = search rules in
    let k = short (length x.line.now) (take x.len x.line.now ++ rest_of_line x.s.now x.from) in
    let given = c.requires in (
      kept_on (holding x.ceiling (take x.size x.held.now)) x.line.now l x.len x.s.now x.from m _ q n.ensures.1,
      given.0,
      omega (arith, p.0),
      omega arith,
      refl,
      refl,
      given.1,
      λ h. refl,
    )
