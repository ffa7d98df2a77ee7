use Rattle.json_text.proofs.PassLaws.{member-passed, member-stuck}
use Rattle.json_text.specs.inner.Machine.{alone}
use Rattle.message.proofs.WalkLaws.{none-listed, walk-starts, walk-spent, no_name, no_member, name-again, no_other, walk-again, walk-shut}
use Rattle.message.proofs.walking.walk_fields.Goals as goal
use Rattle.octets.proofs.TextLaws.{there}
use Rattle.std.specs.Prelude.{None}
use borrow.Author.Rules.{rules}
use mathlib.Core.Path.{◌≡◌, refl, sym, ◌∙◌}
use native.Mathlib.Omega.{arith}

pub returns-then-byte-ne34 : goal.returns-then-byte-ne34
returns-then-byte-ne34 c =
    let x = c.args in
    none-listed x.s.now x.o x.room c.skip.ensures.is (λ z. c.if-byte-ne34.true (c.byte.ensures ∙ z))

pub loop-init : goal.loop-init
loop-init c = (
  omega arith,
  (
    omega (arith, there c.args.s.now c.args.o 122 c.requires.1),
    (
      omega arith,
      walk-starts c.args.s.now c.args.o c.args.room c.requires.1 c.skip.ensures.is (sym c.byte.ensures ∙ c.if-byte-ne34.false) (omega arith),
    ),
  ),
)

pub returns-then-byte-ne34-2 : goal.returns-then-byte-ne34-2
returns-then-byte-ne34-2 c =
    let x = c.args in
    no_name c.loop.invariant.1.1.1 c.skip-q.ensures.is (λ z. c.if-byte-ne34-2.true (c.byte-in-loop.ensures ∙ z)) c.loop.invariant.1.0

pub pass_member-requires : goal.pass_member-requires
pass_member-requires c = let x = c.args in let e = sym c.byte-in-loop.ensures ∙ c.if-byte-ne34-2.false in
    (there x.s.now c.skip-q.result 33 e, e)

pub returns-in_err-v : goal.returns-in_err-v
returns-in_err-v c =
    let x = c.args in
    let s = x.s.now in
    let q = c.skip-q.result in
    let quote = sym c.byte-in-loop.ensures ∙ c.if-byte-ne34-2.false in
    let z : c.from_residual.result ≡ None = search rules in
    rw z (no_member c.loop.invariant.1.1.1 c.skip-q.ensures.is (member-stuck 6 _ s q (there s q 33 quote) quote c.in_err-v.ensures refl (alone 7) refl))

pub overflow_add-q : goal.overflow_add-q
overflow_add-q c =
    let x = c.args in omega (
      arith,
      there x.s.now c.skip-q.result 33 (sym c.byte-in-loop.ensures ∙ c.if-byte-ne34-2.false),
    )

pub overflow_sub-name : goal.overflow_sub-name
overflow_sub-name c =
    let s = c.args.s.now in
    let q = c.skip-q.result in
    let quote = sym c.byte-in-loop.ensures ∙ c.if-byte-ne34-2.false in
    let m = member-passed 6 _ s q (there s q 33 quote) quote c.in_ok-v.ensures refl in
    omega (arith, m.row.named.low, c.skip-q.ensures.low, c.loop.invariant.0)

pub returns-then-is_noted : goal.returns-then-is_noted
returns-then-is_noted c =
    let x = c.args in
    let s = x.s.now in
    let q = c.skip-q.result in
    let quote = sym c.byte-in-loop.ensures ∙ c.if-byte-ne34-2.false in
    let m = member-passed 6 _ s q (there s q 33 quote) quote c.in_ok-v.ensures refl in
    name-again c.loop.invariant.1.1.1 c.skip-q.ensures.is (omega arith) c.loop.invariant.0 quote m
    c.part.ensures c.field-k.ensures.0 c.is_noted.ensures c.if-is_noted.true

pub overflow_add-result : goal.overflow_add-result
overflow_add-result c =
    let s = c.args.s.now in
    let q = c.skip-q.result in
    let quote = sym c.byte-in-loop.ensures ∙ c.if-byte-ne34-2.false in
    let m = member-passed 6 _ s q (there s q 33 quote) quote c.in_ok-v.ensures refl in
    omega (arith, m.inside, c.loop.invariant.1.1.0)

pub returns-then-b-eq125 : goal.returns-then-b-eq125
returns-then-b-eq125 c =
    let s = c.args.s.now in
    let q = c.skip-q.result in
    let quote = sym c.byte-in-loop.ensures ∙ c.if-byte-ne34-2.false in
    let m = member-passed 6 _ s q (there s q 33 quote) quote c.in_ok-v.ensures refl in
    walk-shut c.loop.invariant.1.1.1 c.skip-q.ensures.is (omega arith) c.loop.invariant.0 quote m
    c.part.ensures c.field-k.ensures.0 c.is_noted.ensures c.if-is_noted.false c.note.ensures c.note-in-loop.ensures
    (sym c.byte-b.ensures ∙ c.if-b-eq125.true)

pub returns-then-b-ne44 : goal.returns-then-b-ne44
returns-then-b-ne44 c =
    let s = c.args.s.now in
    let q = c.skip-q.result in
    let quote = sym c.byte-in-loop.ensures ∙ c.if-byte-ne34-2.false in
    let m = member-passed 6 _ s q (there s q 33 quote) quote c.in_ok-v.ensures refl in
    no_other c.loop.invariant.1.1.1 c.skip-q.ensures.is (omega arith) c.loop.invariant.0 quote m
    c.part.ensures c.field-k.ensures.0 c.is_noted.ensures
    (λ z. c.if-b-eq125.false (c.byte-b.ensures ∙ z)) (λ z. c.if-b-ne44.true (c.byte-b.ensures ∙ z))

pub overflow_add-p-in-loop : goal.overflow_add-p-in-loop
overflow_add-p-in-loop c =
    let s = c.args.s.now in
    let q = c.skip-q.result in
    let quote = sym c.byte-in-loop.ensures ∙ c.if-byte-ne34-2.false in
    let m = member-passed 6 _ s q (there s q 33 quote) quote c.in_ok-v.ensures refl in
    omega (arith, m.inside, c.loop.invariant.1.1.0)

pub loop-preserved : goal.loop-preserved
loop-preserved c =
    let s = c.args.s.now in
    let q = c.skip-q.result in
    let quote = sym c.byte-in-loop.ensures ∙ c.if-byte-ne34-2.false in
    let m = member-passed 6 _ s q (there s q 33 quote) quote c.in_ok-v.ensures refl in (
      omega arith,
      (
        omega (arith, m.inside),
        (
          c.loop.invariant.1.1.0,
          walk-again c.loop.invariant.1.1.1 c.skip-q.ensures.is (omega arith) c.loop.invariant.0 quote m
              c.part.ensures c.field-k.ensures.0 c.is_noted.ensures c.if-is_noted.false c.note.ensures c.note-in-loop.ensures
              (sym c.byte-b.ensures ∙ c.if-b-ne44.false) (omega arith),
        ),
      ),
    )

pub returns : goal.returns
returns c =
    walk-spent c.loop.invariant.1.1.1 (omega arith) c.loop.invariant.1.0
