use Prim.Native.Nat.{◌-◌}
use Rattle.fields.proofs.ClosingLaws.{known_on, of_end, open_comma, opened, shut}
use Rattle.fields.proofs.GatherLaws.{hop-few}
use Rattle.fields.proofs.HopLaws.{walk-starts, walk-over, walk_twice, walk-again, walk-shut}
use Rattle.fields.proofs.hops.hop_members.Goals as goal
use Rattle.fields.proofs.hops.hop_members.Goals.{then-known, else-known}
use Rattle.json_text.proofs.TurnLaws.{no_more, spent}
use Rattle.octets.proofs.TextLaws.{there}
use borrow.Author.Rules.{rules}
use borrow.Author.Tests.{eqb-true}
use lib.ListN.{length}
use mathlib.Core.Path.{refl, sym, ◌∙◌}
use native.Mathlib.Omega.{arith}

pub loop-init : goal.loop-init
loop-init c = (
  search rules,
  (
    search rules,
    (
      search rules,
      (
        walk-starts c.args.v.now c.args.o (omega arith) refl (record { host = tt; destination = tt; organization = tt }),
        λ e. opened c.args.v.now c.args.o (sym c.byte-known.ensures ∙ eqb-true c.byte-known.result 123 e),
      ),
    ),
  ),
)

pub returns-then-byte-ne34 : goal.returns-then-byte-ne34
returns-then-byte-ne34 c = (
  walk-over c.loop.invariant.1.1.1.0
      (no_more c.args.v.now (length c.args.v.now - c.loop.counter) c.loop.p c.skip-q.ensures.is (λ e. c.if-byte-ne34.true (c.byte.ensures ∙ e))),
  tt,
)

pub overflow_add-q : goal.overflow_add-q
overflow_add-q c = omega (
  arith,
  there c.args.v.now c.skip-q.result 33
      (sym c.byte.ensures ∙ c.if-byte-ne34.false),
)

pub overflow_sub-name : goal.overflow_sub-name
overflow_sub-name c = omega (arith, c.member_at-x.ensures.named.low, c.skip-q.ensures.low, c.loop.invariant.0)

pub has_member-requires : goal.has_member-requires
has_member-requires c = omega (arith, c.hop_member-k.ensures, hop-few c.part.result.now)

pub returns-then-has_member : goal.returns-then-has_member
returns-then-has_member c =
    walk_twice c.loop.invariant.1.1.1.0 (omega arith) c.skip-q.ensures.is (sym c.byte.ensures ∙ c.if-byte-ne34.false)
    c.member_at-x.ensures c.part.ensures c.hop_member-k.ensures c.has_member.ensures
    (omega (arith, c.skip-q.ensures.low, c.loop.invariant.0)) c.if-has_member.true

pub with_member-m-requires : goal.with_member-m-requires
with_member-m-requires c = omega (arith, c.hop_member-k.ensures, hop-few c.part.result.now)

pub returns-then-byte-ne44 : goal.returns-then-byte-ne44
returns-then-byte-ne44 c =
    let quote = sym c.byte.ensures ∙ c.if-byte-ne34.false in
    let known = known_on c.args.v.now c.args.o c.loop.invariant.1.1.1.1 c.skip-q.ensures.is quote c.member_at-x.ensures
    (λ e. elim c.if-known.branch [
      | then-known w ↦ (w.if-known.true, sym w.is_plain-known.ensures ∙ sym w.known-is ∙ e)
      | else-known w ↦ cc
    ]) in (
      walk-shut c.loop.invariant.1.1.1.0 (omega arith) c.skip-q.ensures.is quote
          c.member_at-x.ensures c.part.ensures c.hop_member-k.ensures c.has_member.ensures
          (omega (arith, c.skip-q.ensures.low, c.loop.invariant.0))
          c.if-has_member.false c.with_member-m.ensures
          (λ e. c.if-byte-ne44.true (c.byte-in-loop.ensures ∙ e)),
      of_end c.shut_at-end.result c.shut_at-end.ensures (λ e r. r.1.1 ∙ shut c.args.v.now c.args.o r.1.0 (known r.0)),
    )

pub overflow_add-p-in-loop : goal.overflow_add-p-in-loop
overflow_add-p-in-loop c =
    omega (arith, c.loop.invariant.1.1.0, there c.args.v.now c.member_at-x.result.then 43 (sym c.byte-in-loop.ensures ∙ c.if-byte-ne44.false))

pub loop-preserved : goal.loop-preserved
loop-preserved c =
    let b = sym c.byte-in-loop.ensures ∙ c.if-byte-ne44.false in (
      search rules,
      (
        omega (arith, there c.args.v.now c.member_at-x.result.then 43 b),
        (
          c.loop.invariant.1.1.0,
          (
            walk-again c.loop.invariant.1.1.1.0 (omega arith) c.skip-q.ensures.is (sym c.byte.ensures ∙ c.if-byte-ne34.false)
                c.member_at-x.ensures c.part.ensures c.hop_member-k.ensures c.has_member.ensures
                (omega (arith, c.skip-q.ensures.low, c.loop.invariant.0))
                c.if-has_member.false c.with_member-m.ensures (omega arith) b,
            λ e. open_comma c.args.v.now c.args.o b (known_on c.args.v.now c.args.o c.loop.invariant.1.1.1.1 c.skip-q.ensures.is
                (sym c.byte.ensures ∙ c.if-byte-ne34.false) c.member_at-x.ensures (λ e. elim c.if-known.branch [
                  | then-known w ↦ (w.if-known.true, sym w.is_plain-known.ensures ∙ sym w.known-is ∙ e)
                  | else-known w ↦ cc
                ]) e),
          ),
        ),
      ),
    )

pub returns : goal.returns
returns c = (
  walk-over c.loop.invariant.1.1.1.0 (spent c.args.v.now (length c.args.v.now - c.loop.counter) c.loop.p (omega arith)),
  tt,
)
