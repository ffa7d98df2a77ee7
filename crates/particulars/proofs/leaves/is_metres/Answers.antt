-- `particulars::leaves::is_metres` meets its contract. One law of `LeafLaws` for each way out. Assumes nothing.
use Rattle.particulars.proofs.LeafLaws.{some-metres, zero-metres}
use Rattle.particulars.proofs.leaves.is_metres.Goals as goal
use borrow.Author.Tests.{eq-eqb, ne_eqb}
use mathlib.Core.Path.{sym, ◌∙◌}

pub returns-then-same : goal.returns-then-same
returns-then-same c = c.if-same.true ∙ zero-metres c.args.v.now (sym c.same.ensures ∙ c.if-same.true)

pub returns-then-byte-ne48 : goal.returns-then-byte-ne48
returns-then-byte-ne48 c =
    let v = c.args.v.now in
    some-metres v (sym c.same.ensures ∙ c.if-same.false) (c.is_digits.ensures ∙ rw (ne_eqb _ 48 (λ e. c.if-byte-ne48.true (c.byte.ensures ∙ e))))

pub returns-else-byte-ne48 : goal.returns-else-byte-ne48
returns-else-byte-ne48 c =
    let v = c.args.v.now in
    some-metres v (sym c.same.ensures ∙ c.if-same.false) (rw (c.if-byte-ne48.false, eq-eqb _ 48 (sym c.byte.ensures ∙ c.if-byte-ne48.false)))
