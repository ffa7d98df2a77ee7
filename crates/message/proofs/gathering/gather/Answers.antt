use Prim.Native.Nat.{ℕ, ◌+◌, ◌-◌, ◌<◌}
use Rattle.fields.proofs.GatherLaws.{Sofar, started, over, repeats, goes_on, has-is, note-is, number_is}
use Rattle.json_text.proofs.PlaceLaws.{closing-is, raw-is}
use Rattle.json_text.proofs.TurnLaws.{no_more, one_more, spent, no-comma, comma}
use Rattle.json_text.specs.Places.{value_of, members_from}
use Rattle.fields.specs.Known.{empty}
use Rattle.message.proofs.ReadingLaws.{each-gathered, not-gathered}
use Rattle.message.proofs.gathering.gather.Goals as goal
use Rattle.octets.proofs.TextLaws.{there}
use Rattle.rules.specs.Names.{fields}
use borrow.Author.Rules.{rules}
use lib.ListN.{length}
use mathlib.Core.Path.{◌≡◌, refl, subst, sym, ◌∙◌}
use native.Mathlib.Omega.{arith}

pub loop-init : goal.loop-init
loop-init c =
    let all : length c.args.s.now ≡ length c.args.s.now - 0 = omega arith in (
      search rules,
      (
        search rules,
        (
          search rules,
          subst (λ (k : ℕ). Sofar fields c.args.s.now c.args.o empty (members_from k c.args.s.now (c.args.o + 1))) all
              (started fields c.args.s.now c.args.o),
        ),
      ),
    )

pub returns-then-byte-ne34 : goal.returns-then-byte-ne34
returns-then-byte-ne34 c =
    let x = c.args in
    let s = x.s.now in
    each-gathered s (over c.loop.invariant.1.1.1 (no_more s (length c.args.s.now - c.loop.counter) c.loop.p c.skip-q.ensures.is (λ e. c.if-byte-ne34.true (c.byte.ensures ∙ e))))

pub overflow_add-q : goal.overflow_add-q
overflow_add-q c =
    let x = c.args in
    omega (arith, there x.s.now c.skip-q.result 33 (sym c.byte.ensures ∙ c.if-byte-ne34.false))

pub overflow_sub-name : goal.overflow_sub-name
overflow_sub-name c = omega (arith, c.member_at-m.ensures.named.low, c.skip-q.ensures.low, c.loop.invariant.0)

pub returns-then-is_noted : goal.returns-then-is_noted
returns-then-is_noted c =
    let x = c.args in
    let s = x.s.now in
    let ns = fields in
    let q = c.skip-q.result in
    let one = one_more s (length c.args.s.now - c.loop.counter) c.loop.p (omega arith) c.skip-q.ensures.is (sym c.byte.ensures ∙ c.if-byte-ne34.false) in
    let m = c.member_at-m in
    let k = number_is ns s q (c.part.ensures ∙ raw-is s q (closing-is s q m.ensures.named)) c.field-k.ensures.0 in
    let some : 0 < q = omega (arith, c.skip-q.ensures.low, c.loop.invariant.0) in
    not-gathered s some (repeats c.loop.invariant.1.1.1 q _ one (λ e. omega arith)
    (sym (has-is ns s c.loop.at q k c.is_noted.ensures) ∙ c.if-is_noted.true))

pub returns-then-byte-ne44 : goal.returns-then-byte-ne44
returns-then-byte-ne44 c =
    let x = c.args in
    let s = x.s.now in
    let ns = fields in
    let q = c.skip-q.result in
    let one = one_more s (length c.args.s.now - c.loop.counter) c.loop.p (omega arith) c.skip-q.ensures.is (sym c.byte.ensures ∙ c.if-byte-ne34.false) in
    let m = c.member_at-m in
    let k = number_is ns s q (c.part.ensures ∙ raw-is s q (closing-is s q m.ensures.named)) c.field-k.ensures.0 in
    let new = sym (has-is ns s c.loop.at q k c.is_noted.ensures) ∙ c.if-is_noted.false in
    let at = note-is ns s c.loop.at q k m.ensures.begins.is c.note.ensures in
    each-gathered s (over (goes_on c.loop.invariant.1.1.1 q _ one new at (no-comma s _ (value_of s q) m.ensures.goes.is (λ e. c.if-byte-ne44.true (c.byte-in-loop.ensures ∙ e))))
    refl)

pub overflow_add-p-in-loop : goal.overflow_add-p-in-loop
overflow_add-p-in-loop c =
    let m = c.member_at-m in
    omega (arith, c.loop.invariant.1.1.0, there c.args.s.now m.result.then 43 (sym c.byte-in-loop.ensures ∙ c.if-byte-ne44.false))

pub loop-preserved : goal.loop-preserved
loop-preserved c =
    let x = c.args in
    let s = x.s.now in
    let ns = fields in
    let q = c.skip-q.result in
    let one = one_more s (length c.args.s.now - c.loop.counter) c.loop.p (omega arith) c.skip-q.ensures.is (sym c.byte.ensures ∙ c.if-byte-ne34.false) in
    let m = c.member_at-m in
    let k = number_is ns s q (c.part.ensures ∙ raw-is s q (closing-is s q m.ensures.named)) c.field-k.ensures.0 in
    let new = sym (has-is ns s c.loop.at q k c.is_noted.ensures) ∙ c.if-is_noted.false in
    let at = note-is ns s c.loop.at q k m.ensures.begins.is c.note.ensures in
    let less : length s - c.loop.counter - 1 ≡ length s - (c.loop.counter + 1) = omega arith in
    let e = sym c.byte-in-loop.ensures ∙ c.if-byte-ne44.false in (
      search rules,
      (
        omega (arith, there s m.result.then 43 e),
        (
          c.loop.invariant.1.1.0,
          subst (λ (n : ℕ). Sofar fields s x.o c.note.new.at (members_from n s (m.result.then + 1))) less
              (goes_on c.loop.invariant.1.1.1 q _ one new at (comma s (members_from (length s - c.loop.counter - 1) s) (value_of s q) m.ensures.goes.is e)),
        ),
      ),
    )

pub returns : goal.returns
returns c =
    let x = c.args in
    each-gathered x.s.now (over c.loop.invariant.1.1.1 (spent x.s.now (length c.args.s.now - c.loop.counter) c.loop.p (omega arith)))
