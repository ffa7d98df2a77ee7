-- `message::walking::walk_text` meets its contract. One law of `WalkLaws` for each way out. Assumes nothing.
use Rattle.message.proofs.WalkLaws.{no_room, fields_unusual, no-bracket, more-behind, usual}
use Rattle.message.proofs.walking.walk_text.Goals as goal
use Rattle.octets.proofs.TextLaws.{there}
use Rattle.std.specs.Prelude.{None}
use borrow.Author.Rules.{rules}
use mathlib.Core.Path.{◌≡◌, sym, ◌∙◌}
use native.Mathlib.Omega.{arith}

pub returns-then-ceiling-lt3 : goal.returns-then-ceiling-lt3
returns-then-ceiling-lt3 c = let x = c.args in no_room x.s.now x.ceiling c.if-ceiling-lt3.true

pub walk_fields-requires : goal.walk_fields-requires
walk_fields-requires c = let b = c.in_ok-b.ensures.1 in (there c.args.s.now c.in_ok-b.b.object 122 b.brace, b.brace)

pub returns-in_err-b : goal.returns-in_err-b
returns-in_err-b c = let z : c.from_residual.result ≡ None = search rules in rw z (c.in_err-b.ensures c.args.ceiling)

pub returns-in_err-f : goal.returns-in_err-f
returns-in_err-f c =
    let b = c.in_ok-b.ensures in
    let z : c.from_residual-in_err-f.result ≡ None = search rules in
    rw z (fields_unusual (omega (arith, c.if-ceiling-lt3.false)) b.0 b.1 c.in_err-f.ensures)

pub returns-then-byte-ne93 : goal.returns-then-byte-ne93
returns-then-byte-ne93 c =
    let b = c.in_ok-b.ensures in
    no-bracket (omega (arith, c.if-ceiling-lt3.false)) b.0 b.1 c.in_ok-f.ensures c.skip-z.ensures.is (λ z. c.if-byte-ne93.true (c.byte.ensures ∙ z))

pub overflow_add-z : goal.overflow_add-z
overflow_add-z c = omega (arith, there c.args.s.now c.skip-z.result 92 (sym c.byte.ensures ∙ c.if-byte-ne93.false))

pub returns-then-skip-s : goal.returns-then-skip-s
returns-then-skip-s c =
    let b = c.in_ok-b.ensures in
    more-behind (omega (arith, c.if-ceiling-lt3.false)) b.0 b.1 c.in_ok-f.ensures c.skip-z.ensures.is (sym c.byte.ensures ∙ c.if-byte-ne93.false)
    c.skip.ensures.is c.if-skip-s.true

pub returns : goal.returns
returns c =
    let b = c.in_ok-b.ensures in
    let e = sym c.byte.ensures ∙ c.if-byte-ne93.false in
    let i = there c.args.s.now c.skip-z.result 92 e in
    usual (omega (arith, c.if-ceiling-lt3.false)) b.0 b.1 c.in_ok-f.ensures c.skip-z.ensures.is e c.skip.ensures.is c.if-skip-s.false
    (c.skip.ensures.inner (omega arith))
