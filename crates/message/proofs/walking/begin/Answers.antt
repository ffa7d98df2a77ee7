-- `message::walking::begin` meets its contract. One law of `WalkLaws` for each byte on the way. Assumes nothing.
use Rattle.message.proofs.WalkLaws.{begins-no-array, begins-no-string, begins-broken, begins-alone, begins-no-object, begun, no-such-tag}
use Rattle.message.proofs.walking.begin.Goals as goal
use Rattle.octets.proofs.TextLaws.{there}
use Rattle.std.specs.Prelude.{None}
use borrow.Author.Rules.{rules}
use mathlib.Core.Path.{◌≡◌, sym, ◌∙◌}
use native.Mathlib.Omega.{arith}

pub returns-then-byte-ne91 : goal.returns-then-byte-ne91
returns-then-byte-ne91 c =
    let x = c.args in
    let o = c.skip-o.ensures.is in
    begins-no-array x.s.now o (λ z. c.if-byte-ne91.true (c.byte.ensures ∙ z))

pub overflow_add-o : goal.overflow_add-o
overflow_add-o c = let x = c.args in
    omega (arith, there x.s.now c.skip-o.result 90 (sym c.byte.ensures ∙ c.if-byte-ne91.false))

pub returns-then-byte-ne34 : goal.returns-then-byte-ne34
returns-then-byte-ne34 c =
    let x = c.args in
    let o = c.skip-o.ensures.is in
    let array = sym c.byte.ensures ∙ c.if-byte-ne91.false in
    let a = c.skip-x.ensures.is in
    begins-no-string x.s.now o array a (λ z. c.if-byte-ne34.true (c.byte-2.ensures ∙ z))

pub pass_string-requires : goal.pass_string-requires
pass_string-requires c = let x = c.args in let e = sym c.byte-2.ensures ∙ c.if-byte-ne34.false in
    (there x.s.now c.skip-x.result 33 e, e)

pub returns-in_err-e : goal.returns-in_err-e
returns-in_err-e c =
    let x = c.args in
    let o = c.skip-o.ensures.is in
    let array = sym c.byte.ensures ∙ c.if-byte-ne91.false in
    let a = c.skip-x.ensures.is in
    let quote = sym c.byte-2.ensures ∙ c.if-byte-ne34.false in
    let e = sym c.in_err-e.ensures in
    let z : c.from_residual.result ≡ None = search rules in
    rw z (begins-broken x.s.now o array a quote e)

pub returns-then-byte-ne44 : goal.returns-then-byte-ne44
returns-then-byte-ne44 c =
    let x = c.args in
    let o = c.skip-o.ensures.is in
    let array = sym c.byte.ensures ∙ c.if-byte-ne91.false in
    let a = c.skip-x.ensures.is in
    let quote = sym c.byte-2.ensures ∙ c.if-byte-ne34.false in
    let e = sym c.in_ok-e.ensures in
    let b = c.skip-c.ensures.is in
    begins-alone x.s.now o array a quote e b (λ z. c.if-byte-ne44.true (c.byte-3.ensures ∙ z))

pub overflow_add-c : goal.overflow_add-c
overflow_add-c c = let x = c.args in
    omega (arith, there x.s.now c.skip-c.result 43 (sym c.byte-3.ensures ∙ c.if-byte-ne44.false))

pub returns-then-byte-ne123 : goal.returns-then-byte-ne123
returns-then-byte-ne123 c =
    let x = c.args in
    let o = c.skip-o.ensures.is in
    let array = sym c.byte.ensures ∙ c.if-byte-ne91.false in
    let a = c.skip-x.ensures.is in
    let quote = sym c.byte-2.ensures ∙ c.if-byte-ne34.false in
    let e = sym c.in_ok-e.ensures in
    let b = c.skip-c.ensures.is in
    let comma = sym c.byte-3.ensures ∙ c.if-byte-ne44.false in
    let y = c.skip-y.ensures.is in
    begins-no-object x.s.now o array a quote e b comma y (λ z. c.if-byte-ne123.true (c.byte-4.ensures ∙ z))

pub overflow_add-x : goal.overflow_add-x
overflow_add-x c =
    let x = c.args in
    omega (arith, there x.s.now c.skip-x.result 33 (sym c.byte-2.ensures ∙ c.if-byte-ne34.false))

pub returns-then-tag-eq0 : goal.returns-then-tag-eq0
returns-then-tag-eq0 c =
    let x = c.args in
    let o = c.skip-o.ensures.is in
    let array = sym c.byte.ensures ∙ c.if-byte-ne91.false in
    let a = c.skip-x.ensures.is in
    let quote = sym c.byte-2.ensures ∙ c.if-byte-ne34.false in
    let e = sym c.in_ok-e.ensures in
    let b = c.skip-c.ensures.is in
    let comma = sym c.byte-3.ensures ∙ c.if-byte-ne44.false in
    let y = c.skip-y.ensures.is in
    no-such-tag x.s.now o array a quote e b comma y (sym c.byte-4.ensures ∙ c.if-byte-ne123.false) c.part.ensures c.tag-tag.ensures c.if-tag-eq0.true

pub returns : goal.returns
returns c =
    let x = c.args in
    let o = c.skip-o.ensures.is in
    let array = sym c.byte.ensures ∙ c.if-byte-ne91.false in
    let a = c.skip-x.ensures.is in
    let quote = sym c.byte-2.ensures ∙ c.if-byte-ne34.false in
    let e = sym c.in_ok-e.ensures in
    let b = c.skip-c.ensures.is in
    let comma = sym c.byte-3.ensures ∙ c.if-byte-ne44.false in
    let y = c.skip-y.ensures.is in
    (omega (arith, c.if-tag-eq0.false), begun x.s.now o array a quote e b comma y (sym c.byte-4.ensures ∙ c.if-byte-ne123.false) c.part.ensures c.tag-tag.ensures)
