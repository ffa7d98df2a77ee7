-- `message::shapes::shape_of` meets its contract. One law of `ShapeLaws` for each way out. Assumes nothing.
use Rattle.message.proofs.ShapeLaws.{no-array, no-tag, one-alone, no-object, three, a_pair}
use Rattle.message.proofs.shapes.shape_of.Goals as goal
use Rattle.octets.proofs.TextLaws.{there}
use lib.ListN.{length}
use mathlib.Core.Path.{refl, sym, ◌∙◌}
use native.Mathlib.Omega.{arith}

pub returns-then-byte-ne91 : goal.returns-then-byte-ne91
returns-then-byte-ne91 c =
    let s = c.args.s.now in
    let o = c.skip-o.ensures in
    sym (no-array s o.is (λ e. c.if-byte-ne91.true (c.byte.ensures ∙ e)))

pub overflow_add-o : goal.overflow_add-o
overflow_add-o c = omega (arith, there c.args.s.now c.skip-o.result 90 (sym c.byte.ensures ∙ c.if-byte-ne91.false))

pub returns-then-byte-ne34 : goal.returns-then-byte-ne34
returns-then-byte-ne34 c =
    let s = c.args.s.now in
    let o = c.skip-o.ensures in
    let array = sym c.byte.ensures ∙ c.if-byte-ne91.false in
    let in-o = there s c.skip-o.result 90 array in
    let x = c.skip-x.ensures in
    sym (no-tag s o.is x.is (length s) refl (omega arith) (λ e. c.if-byte-ne34.true (c.byte-2.ensures ∙ e)))

pub returns-then-byte-ne44 : goal.returns-then-byte-ne44
returns-then-byte-ne44 c =
    let s = c.args.s.now in
    let o = c.skip-o.ensures in
    let array = sym c.byte.ensures ∙ c.if-byte-ne91.false in
    let in-o = there s c.skip-o.result 90 array in
    let x = c.skip-x.ensures in
    let string = sym c.byte-2.ensures ∙ c.if-byte-ne34.false in
    let in-x = there s c.skip-x.result 33 string in
    let c1 = c.element_at-c.ensures in
    sym (one-alone s o.is x.is (length s) refl (omega arith) string c1.goes.is (λ e. c.if-byte-ne44.true (c.byte-3.ensures ∙ e)))

pub overflow_add-c : goal.overflow_add-c
overflow_add-c c =
    omega (arith, there c.args.s.now c.element_at-c.result.then 43 (sym c.byte-3.ensures ∙ c.if-byte-ne44.false))

pub returns-then-byte-ne123 : goal.returns-then-byte-ne123
returns-then-byte-ne123 c =
    let s = c.args.s.now in
    let o = c.skip-o.ensures in
    let array = sym c.byte.ensures ∙ c.if-byte-ne91.false in
    let in-o = there s c.skip-o.result 90 array in
    let x = c.skip-x.ensures in
    let string = sym c.byte-2.ensures ∙ c.if-byte-ne34.false in
    let in-x = there s c.skip-x.result 33 string in
    let c1 = c.element_at-c.ensures in
    let comma = sym c.byte-3.ensures ∙ c.if-byte-ne44.false in
    let in_c = there s c.element_at-c.result.then 43 comma in
    let y = c.skip-y.ensures in
    sym (no-object s o.is x.is (length s) refl (omega arith) string c1.goes.is comma (omega (arith, x.low)) y.is
    (λ e. c.if-byte-ne123.true (c.byte-4.ensures ∙ e)))

pub returns-then-byte-eq44 : goal.returns-then-byte-eq44
returns-then-byte-eq44 c =
    let s = c.args.s.now in
    let o = c.skip-o.ensures in
    let array = sym c.byte.ensures ∙ c.if-byte-ne91.false in
    let in-o = there s c.skip-o.result 90 array in
    let x = c.skip-x.ensures in
    let string = sym c.byte-2.ensures ∙ c.if-byte-ne34.false in
    let in-x = there s c.skip-x.result 33 string in
    let c1 = c.element_at-c.ensures in
    let comma = sym c.byte-3.ensures ∙ c.if-byte-ne44.false in
    let in_c = there s c.element_at-c.result.then 43 comma in
    let y = c.skip-y.ensures in
    let object = sym c.byte-4.ensures ∙ c.if-byte-ne123.false in
    let in-y = there s c.skip-y.result 122 object in
    let z = c.element_at-z.ensures in
    sym (three s o.is x.is (length s) refl (omega arith) string c1.goes.is comma (omega (arith, x.low)) y.is z.goes.is
    (sym c.byte-5.ensures ∙ c.if-byte-eq44.true) (omega (arith, x.low, c1.ends.low, c1.goes.low, y.low)))

pub returns-then-tag-eq0 : goal.returns-then-tag-eq0
returns-then-tag-eq0 c =
    let s = c.args.s.now in
    let o = c.skip-o.ensures in
    let array = sym c.byte.ensures ∙ c.if-byte-ne91.false in
    let in-o = there s c.skip-o.result 90 array in
    let x = c.skip-x.ensures in
    let string = sym c.byte-2.ensures ∙ c.if-byte-ne34.false in
    let in-x = there s c.skip-x.result 33 string in
    let c1 = c.element_at-c.ensures in
    let comma = sym c.byte-3.ensures ∙ c.if-byte-ne44.false in
    let in_c = there s c.element_at-c.result.then 43 comma in
    let y = c.skip-y.ensures in
    let object = sym c.byte-4.ensures ∙ c.if-byte-ne123.false in
    let in-y = there s c.skip-y.result 122 object in
    let z = c.element_at-z.ensures in
    sym (a_pair s o.is x.is (length s) refl (omega arith) string c1.goes.is comma (omega (arith, x.low)) y.is z.goes.is array object
    (λ e. c.if-byte-eq44.false (c.byte-5.ensures ∙ e)) in-y c.name_part.ensures c.tag-tag.ensures).is ∙ c.if-tag-eq0.true

pub returns : goal.returns
returns c =
    let s = c.args.s.now in
    let o = c.skip-o.ensures in
    let array = sym c.byte.ensures ∙ c.if-byte-ne91.false in
    let in-o = there s c.skip-o.result 90 array in
    let x = c.skip-x.ensures in
    let string = sym c.byte-2.ensures ∙ c.if-byte-ne34.false in
    let in-x = there s c.skip-x.result 33 string in
    let c1 = c.element_at-c.ensures in
    let comma = sym c.byte-3.ensures ∙ c.if-byte-ne44.false in
    let in_c = there s c.element_at-c.result.then 43 comma in
    let y = c.skip-y.ensures in
    let object = sym c.byte-4.ensures ∙ c.if-byte-ne123.false in
    let in-y = there s c.skip-y.result 122 object in
    let z = c.element_at-z.ensures in (
      omega (arith, c.if-tag-eq0.false),
      a_pair s o.is x.is (length s) refl (omega arith) string c1.goes.is comma (omega (arith, x.low)) y.is z.goes.is array object
          (λ e. c.if-byte-eq44.false (c.byte-5.ensures ∙ e)) in-y c.name_part.ensures c.tag-tag.ensures,
    )
