-- `message::reading::read_and_count` meets its contract. Each exit puts in what led there; `ReadingLaws` has the rows. Assumes nothing.
use Rattle.message.proofs.ReadingLaws.{too_short, too_long, in_bounds}
use Rattle.message.proofs.reading.read_and_count.Goals as goal
use Rattle.message.proofs.reading.read_and_count.Goals.{then-is_empty-via-then-is_empty, then-is_empty-via-else-is_empty+then-s-gt32768}
use Rattle.message.specs.Reading.{on_utf8}
use borrow.Author.Tests.{eqb-true, eqb-false}
use lib.ListN.{length}
use mathlib.Core.Path.{sym, ap, ◌∙◌}

pub returns-then-is_empty : goal.returns-then-is_empty
returns-then-is_empty c =
    let x = c.args in
    elim c.then-is_empty.branch [
      | then-is_empty-via-then-is_empty w ↦
          c.uncounted.ensures ∙ too_short x.ceiling x.s.now (eqb-true (length x.s.now) 0 (sym c.is_empty.ensures ∙ w.if-is_empty.true))
      | then-is_empty-via-else-is_empty+then-s-gt32768 w ↦ c.uncounted.ensures ∙ too_long x.ceiling x.s.now w.if-s-gt32768.true
    ]

pub returns-in-Err : goal.returns-in-Err
returns-in-Err c =
    let x = c.args in
    let b = in_bounds x.ceiling x.s.now (eqb-false (length x.s.now) 0 (sym c.is_empty.ensures ∙ c.if-is_empty.false)) c.if-s-gt32768.false in
    c.uncounted-in-Err.ensures ∙ sym (b ∙ ap (on_utf8 x.ceiling x.s.now) (sym c.in-Err.ensures))

pub returns-in-Ok : goal.returns-in-Ok
returns-in-Ok c =
    let x = c.args in
    let b = in_bounds x.ceiling x.s.now (eqb-false (length x.s.now) 0 (sym c.is_empty.ensures ∙ c.if-is_empty.false)) c.if-s-gt32768.false in
    c.tell.ensures ∙ sym (b ∙ ap (on_utf8 x.ceiling x.s.now) (sym c.in-Ok.ensures))
