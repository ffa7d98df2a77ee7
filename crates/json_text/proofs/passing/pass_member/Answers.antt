-- One law for each way out; what the readers answer is the machine's answer. Assumes nothing.
use Rattle.json_text.proofs.PassLaws.{string-told, told, value-lone, no_end, no_name, no-colon, no_value, not-followed, a-member}
use Rattle.json_text.proofs.passing.pass_member.Goals as goal
use Rattle.json_text.specs.inner.Passing.{is_next}
use Rattle.octets.proofs.TextLaws.{there}
use mathlib.Core.Path.{sym, ap, ◌∙◌}
use native.Mathlib.Omega.{arith}

pub returns-in_err-e : goal.returns-in_err-e
returns-in_err-e c =
    let x = c.args in
    let none = sym (c.ok.ensures.value ∙ string-told c.requires.0 c.requires.1 c.string.ensures) ∙ c.in_err-e.was in
    c.from_residual.ensures ∙ no_name x.left x.room x.s.now x.q none

pub returns-then-byte-ne58 : goal.returns-then-byte-ne58
returns-then-byte-ne58 c =
    let x = c.args in
    let named = sym (c.ok.ensures.value ∙ string-told c.requires.0 c.requires.1 c.string.ensures) ∙ c.in_ok-e.was in
    no-colon x.left x.room x.s.now x.q named c.skip-c.ensures.is (λ z. c.if-byte-ne58.true (c.byte.ensures ∙ z))

pub overflow_add-c : goal.overflow_add-c
overflow_add-c c =
    let x = c.args in
    omega (arith, there x.s.now c.skip-c.result 57 (sym c.byte.ensures ∙ c.if-byte-ne58.false))

pub value-requires : goal.value-requires
value-requires c =
    let x = c.args in
    let h = there x.s.now c.skip-c.result 57 (sym c.byte.ensures ∙ c.if-byte-ne58.false) in
    c.skip-v.ensures.inner (omega arith)

pub returns-in_err-w : goal.returns-in_err-w
returns-in_err-w c =
    let x = c.args in
    let named = sym (c.ok.ensures.value ∙ string-told c.requires.0 c.requires.1 c.string.ensures) ∙ c.in_ok-e.was in
    let colon = sym c.byte.ensures ∙ c.if-byte-ne58.false in
    c.from_residual-in_err-w.ensures
    ∙ no_value x.left x.room x.s.now x.q named c.skip-c.ensures.is colon c.skip-v.ensures.is (value-lone c.value.ensures)
    (no_end c.value.result (sym c.ok-2.ensures.value ∙ c.in_err-w.was))

pub returns-then-is_next : goal.returns-then-is_next
returns-then-is_next c =
    let x = c.args in
    let named = sym (c.ok.ensures.value ∙ string-told c.requires.0 c.requires.1 c.string.ensures) ∙ c.in_ok-e.was in
    let colon = sym c.byte.ensures ∙ c.if-byte-ne58.false in
    let read = told c.value.result (sym c.ok-2.ensures.value ∙ c.in_ok-w.was) in
    let follow = ap is_next (sym c.byte-2.ensures) ∙ sym c.is_next.ensures in
    a-member x.left x.room x.s.now x.q named c.skip-c.ensures.is colon c.skip-v.ensures.is (value-lone c.value.ensures) read c.skip-t.ensures.is
    (follow ∙ c.if-is_next.true)

pub returns : goal.returns
returns c =
    let x = c.args in
    let named = sym (c.ok.ensures.value ∙ string-told c.requires.0 c.requires.1 c.string.ensures) ∙ c.in_ok-e.was in
    let colon = sym c.byte.ensures ∙ c.if-byte-ne58.false in
    let read = told c.value.result (sym c.ok-2.ensures.value ∙ c.in_ok-w.was) in
    let follow = ap is_next (sym c.byte-2.ensures) ∙ sym c.is_next.ensures in
    not-followed x.left x.room x.s.now x.q named c.skip-c.ensures.is colon c.skip-v.ensures.is (value-lone c.value.ensures) read c.skip-t.ensures.is
    (follow ∙ c.if-is_next.false)
