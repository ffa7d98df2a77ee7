-- `sequences::sequence_of` meets its contract: each way out is a law. Assumes nothing.
use Rattle.rules.proofs.PieceLaws.{stands-inside}
use Rattle.rules.proofs.SequenceLaws.{good-sequence, leading_zero, no-method, no_number, no_space, number_in}
use Rattle.rules.proofs.sequences.sequence_of.Goals as goal
use Rattle.rules.proofs.sequences.sequence_of.Goals.{then-not-mark-via-then-not-mark, then-not-mark-via-else-not-mark+then-byte-eq48}
use mathlib.Core.Path.{◌∙◌, sym}
use native.Mathlib.Omega.{arith}

pub returns-then-not-mark : goal.returns-then-not-mark
returns-then-not-mark c =
    let s = c.args.s.now in
    let n = c.run_end-end.result in
    elim c.then-not-mark.branch [
      | then-not-mark-via-then-not-mark w ↦ no_space s n c.run_end-end.ensures.0 (sym c.mark.ensures ∙ w.if-not-mark.true)
      | then-not-mark-via-else-not-mark+then-byte-eq48 w ↦ leading_zero s n c.run_end-end.ensures.0 (sym w.byte.ensures ∙ w.if-byte-eq48.true)
    ]

pub returns-in_err-number : goal.returns-in_err-number
returns-in_err-number c = rw c.from_residual.ensures (no_number c.args.s.now c.run_end-end.result c.run_end-end.ensures.0 c.in_err-number.ensures)

pub slice_bounds-method-count : goal.slice_bounds-method-count
slice_bounds-method-count c =
    omega (arith, stands-inside c.args.s.now c.run_end-end.result 32 (omega arith) (sym c.mark.ensures ∙ c.if-not-mark.false))

pub slice_bounds-method-start : goal.slice_bounds-method-start
slice_bounds-method-start c =
    omega (arith, stands-inside c.args.s.now c.run_end-end.result 32 (omega arith) (sym c.mark.ensures ∙ c.if-not-mark.false))

pub returns-then-method-eq0 : goal.returns-then-method-eq0
returns-then-method-eq0 c =
    no-method c.args.s.now c.run_end-end.result c.run_end-end.ensures.0 _ c.in_ok-number.ensures _ c.method-method.ensures c.if-method-eq0.true

pub overflow_cast-result : goal.overflow_cast-result
overflow_cast-result c =
    omega (arith, number_in c.args.s.now c.run_end-end.result c.run_end-end.ensures.0 _ c.in_ok-number.ensures)

pub returns : goal.returns
returns c =
    good-sequence c.args.s.now c.run_end-end.result c.run_end-end.ensures.0 _ c.in_ok-number.ensures _ c.method-method.ensures
    (sym c.mark.ensures ∙ c.if-not-mark.false) (λ e. c.if-byte-eq48.false (c.byte.ensures ∙ e)) c.if-method-eq0.false
