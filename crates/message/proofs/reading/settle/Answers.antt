-- `message::reading::settle` meets its contract. By its definition and what the callees ensure. Assumes nothing.
use Rattle.message.proofs.CheckLaws.{later-method, none-missing, refused}
use Rattle.message.proofs.reading.settle.Goals as goal
use Rattle.message.specs.Reading.{settled}
use Rattle.std.specs.Prelude.{Err}
use borrow.Author.Rules.{rules}
use borrow.Author.Tests.{eq-eqb, ne_eqb}
use mathlib.Core.Bool.{false}
use mathlib.Core.Path.{◌≡◌, sym, ◌∙◌}

pub returns-then-k-ne-REQUEST : goal.returns-then-k-ne-REQUEST
unfolding settled
returns-then-k-ne-REQUEST c = rw (ne_eqb _ _ c.if-k-ne-REQUEST.true) c.agree.ensures

pub returns-in_err-check_required : goal.returns-in_err-check_required
unfolding settled
returns-in_err-check_required c =
    let x = c.args in let z : c.from_residual.result ≡ Err c.in_err-check_required.field-0.0 = search rules in
    rw (eq-eqb _ _ c.if-k-ne-REQUEST.false, sym (refused x.s.now false x.k x.at.now c.in_err-check_required.ensures)) z

pub check_rules-requires : goal.check_rules-requires
check_rules-requires c =
    (c.requires.0, (c.requires.1.0, (c.requires.1.1.1, later-method c.args.s.now c.args.at.now c.args.k c.requires.1.0)))

pub returns-in_err-check_rules : goal.returns-in_err-check_rules
unfolding settled
returns-in_err-check_rules c =
    let x = c.args in let z : c.from_residual-in_err-check_rules.result ≡ Err c.in_err-check_rules.field-0.0 = search rules in
    rw (
      eq-eqb _ _ c.if-k-ne-REQUEST.false,
      (none-missing x.s.now false x.k x.at.now c.in_ok-check_required.ensures).1 ∙ sym c.in_err-check_rules.ensures,
    ) z

pub returns : goal.returns
unfolding settled
returns c =
    let x = c.args in rw (
      eq-eqb _ _ c.if-k-ne-REQUEST.false,
      (none-missing x.s.now false x.k x.at.now c.in_ok-check_required.ensures).1 ∙ sym c.in_ok-check_rules.ensures,
    ) c.agree-2.ensures
