-- One law for each case of what the line says. Assumes nothing.
use Rattle.keep.proofs.LogLaws.{bad-done, long-at, long-done, message-at, message-done, part-short, tick-at, tick-done}
use Rattle.keep.proofs.answering.answer.Goals as goal
use mathlib.Core.Path.{sym, ◌∙◌}
use native.Mathlib.Omega.{arith}

pub slice_bounds-put_answer-end : goal.slice_bounds-put_answer-end
slice_bounds-put_answer-end c = omega (arith, long-at c.args.l.now c.in-Long.n (sym c.read.ensures ∙ c.in-Long.is))

pub put_answer-requires : goal.put_answer-requires
put_answer-requires c =
    let p = long-at c.args.l.now c.in-Long.n (sym c.read.ensures ∙ c.in-Long.is) in
    (part-short c.args.l.now _ p.0, omega arith)

pub overflow_add-id : goal.overflow_add-id
overflow_add-id c = omega (
  arith,
  tick-at c.args.l.now c.in-Tick.n c.in-Tick.time
      (sym c.read.ensures ∙ c.in-Tick.is),
)

pub slice_bounds-tick_step-count : goal.slice_bounds-tick_step-count
slice_bounds-tick_step-count c =
    omega (
      arith,
      tick-at c.args.l.now c.in-Tick.n c.in-Tick.time
          (sym c.read.ensures ∙ c.in-Tick.is),
    )

pub slice_bounds-tick_step-start : goal.slice_bounds-tick_step-start
slice_bounds-tick_step-start c =
    omega (
      arith,
      tick-at c.args.l.now c.in-Tick.n c.in-Tick.time
          (sym c.read.ensures ∙ c.in-Tick.is),
    )

pub slice_bounds-tick_step-end : goal.slice_bounds-tick_step-end
slice_bounds-tick_step-end c =
    omega (
      arith,
      tick-at c.args.l.now c.in-Tick.n c.in-Tick.time
          (sym c.read.ensures ∙ c.in-Tick.is),
    )

pub slice_bounds-put_answer-end-in-Tick : goal.slice_bounds-put_answer-end-in-Tick
slice_bounds-put_answer-end-in-Tick c =
    omega (arith, tick-at c.args.l.now c.in-Tick.n c.in-Tick.time (sym c.read.ensures ∙ c.in-Tick.is))

pub put_answer-requires-in-Tick : goal.put_answer-requires-in-Tick
put_answer-requires-in-Tick c =
    let p = tick-at c.args.l.now c.in-Tick.n c.in-Tick.time (sym c.read.ensures ∙ c.in-Tick.is) in
    (part-short c.args.l.now _ p.0, omega arith)

pub overflow_add-text : goal.overflow_add-text
overflow_add-text c = omega (
  arith,
  message-at c.args.l.now c.in-Message.n c.in-Message.time
      (sym c.read.ensures ∙ c.in-Message.is),
)

pub slice_bounds-message_step-count : goal.slice_bounds-message_step-count
slice_bounds-message_step-count c =
    omega (
      arith,
      message-at c.args.l.now c.in-Message.n c.in-Message.time
          (sym c.read.ensures ∙ c.in-Message.is),
    )

pub slice_bounds-message_step-start : goal.slice_bounds-message_step-start
slice_bounds-message_step-start c =
    omega (
      arith,
      message-at c.args.l.now c.in-Message.n c.in-Message.time
          (sym c.read.ensures ∙ c.in-Message.is),
    )

pub slice_bounds-message_step-end : goal.slice_bounds-message_step-end
slice_bounds-message_step-end c =
    omega (
      arith,
      message-at c.args.l.now c.in-Message.n c.in-Message.time
          (sym c.read.ensures ∙ c.in-Message.is),
    )

pub slice_bounds-put_answer-end-in-Message : goal.slice_bounds-put_answer-end-in-Message
slice_bounds-put_answer-end-in-Message c =
    omega (arith, message-at c.args.l.now c.in-Message.n c.in-Message.time (sym c.read.ensures ∙ c.in-Message.is))

pub put_answer-requires-in-Message : goal.put_answer-requires-in-Message
put_answer-requires-in-Message c =
    let p = message-at c.args.l.now c.in-Message.n c.in-Message.time (sym c.read.ensures ∙ c.in-Message.is) in
    (part-short c.args.l.now _ p.0, omega arith)

pub returns-in-Bad : goal.returns-in-Bad
returns-in-Bad c =
    let x = c.args in
    let w = c.put_bad.ensures in
    let d = bad-done x.table.now x.l.now x.out.now x.at (sym c.read.ensures ∙ c.in-Bad.is) (w.0, w.1) in
    (d.0, d.1, d.2, c.requires.0, w.2)

pub returns-in-Long : goal.returns-in-Long
returns-in-Long c =
    let x = c.args in
    let w = c.put_answer.ensures in
    let d = long-done x.table.now x.l.now x.out.now x.at c.in-Long.n (sym c.read.ensures ∙ c.in-Long.is) (w.0, w.1) in
    (d.0, d.1, d.2, c.requires.0, w.2)

pub returns-in-Tick : goal.returns-in-Tick
returns-in-Tick c =
    let x = c.args in
    let w = c.put_answer-in-Tick.ensures in
    let s = c.tick_step-a.ensures in
    let d = tick-done x.table.now x.l.now x.out.now x.at c.in-Tick.n c.in-Tick.time (sym c.read.ensures ∙ c.in-Tick.is)
    s.0 s.1 (w.0, w.1) in
    (d.0, d.1, d.2, s.2, w.2)

pub returns-in-Message : goal.returns-in-Message
returns-in-Message c =
    let x = c.args in
    let w = c.put_answer-in-Message.ensures in
    let s = c.message_step-a.ensures in
    let d = message-done x.table.now x.l.now x.out.now x.at c.in-Message.n c.in-Message.time
    (sym c.read.ensures ∙ c.in-Message.is) s.0 s.1 (w.0, w.1) in
    (d.0, d.1, d.2, s.2, w.2)
