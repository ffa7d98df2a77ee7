-- `fields::vias::object_at` meets its contract. One law of `ViaLaws` for each way out. Assumes nothing.
use Prim.Native.Nat.{ℕ}
use Rattle.fields.proofs.ViaLaws.{not-object, twice_one, once-each, host-found, no_host, no_destination, no_organization}
use Rattle.fields.proofs.vias.object_at.Goals as goal
use Rattle.fields.proofs.vias.object_at.Goals.{
  else-keeps_member-via-then-keeps_member+then-keeps_member-2+else-keeps_member-3,
  else-keeps_member-via-then-keeps_member+else-keeps_member-2,
  else-keeps_member-via-else-keeps_member,
}
use Rattle.fields.specs.Via.{hop_keeps}
use Rattle.fields.specs.inner.Gathering.{begin_of}
use Rattle.octets.proofs.TextLaws.{there}
use Rattle.values.specs.Spans.{spelling_span}
use mathlib.Core.Path.{sym, ap, ◌∙◌}

pub returns-then-byte-ne123 : goal.returns-then-byte-ne123
returns-then-byte-ne123 c = not-object c.args.v.now c.args.o (λ e. c.if-byte-ne123.true (c.byte.ensures ∙ e))

pub hop_members-requires : goal.hop_members-requires
hop_members-requires c = let x = c.args in there x.v.now x.o 122 (sym c.byte.ensures ∙ c.if-byte-ne123.false)

pub returns-in_err-members : goal.returns-in_err-members
returns-in_err-members c =
    rw c.from_residual.ensures (twice_one c.args.v.now c.args.o (sym c.byte.ensures ∙ c.if-byte-ne123.false) c.in_err-members.ensures)

pub returns-in_err-host : goal.returns-in_err-host
returns-in_err-host c =
    rw c.from_residual-in_err-host.ensures
    (no_host c.args.v.now c.args.o (sym c.byte.ensures ∙ c.if-byte-ne123.false) c.in_ok-members.ensures.0.0 (ap begin_of c.in_err-host.was))

pub returns-in_err-destination : goal.returns-in_err-destination
returns-in_err-destination c =
    rw c.from_residual-in_err-destination.ensures
    (no_destination c.args.v.now c.args.o (sym c.byte.ensures ∙ c.if-byte-ne123.false) c.in_ok-members.ensures.0.0 (ap begin_of c.in_err-destination.was))

pub returns-in_err-organization : goal.returns-in_err-organization
returns-in_err-organization c =
    rw c.from_residual-in_err-organization.ensures
    (no_organization c.args.v.now c.args.o (sym c.byte.ensures ∙ c.if-byte-ne123.false) c.in_ok-members.ensures.0.0 (ap begin_of c.in_err-organization.was))

pub returns-then-keeps_member-3 : goal.returns-then-keeps_member-3
returns-then-keeps_member-3 c =
    let v = c.args.v.now in
    let b = sym c.byte.ensures ∙ c.if-byte-ne123.false in
    let g = c.in_ok-members.ensures.0.0 in
    let h = ap begin_of c.in_ok-host.was in (
      once-each v c.args.o b g ∙ rw (
        ap (λ (p : ℕ). hop_keeps v p 1) h ∙ sym c.keeps_member.ensures ∙ c.if-keeps_member.true,
        ap (λ (p : ℕ). hop_keeps v p 2) (ap begin_of c.in_ok-destination.was) ∙ sym c.keeps_member-then-keeps_member.ensures ∙ c.if-keeps_member-2.true,
        ap (λ (p : ℕ). hop_keeps v p 3) (ap begin_of c.in_ok-organization.was) ∙ sym c.keeps_member-then-keeps_member-2.ensures ∙ c.if-keeps_member-3.true,
      ),
      (c.spelling_span.ensures ∙ ap (spelling_span v) (sym h) ∙ host-found v c.args.o b g, c.in_ok-members.ensures.1),
    )

pub returns : goal.returns
returns c =
    let v = c.args.v.now in
    let h = ap (λ (p : ℕ). hop_keeps v p 1) (ap begin_of c.in_ok-host.was) ∙ sym c.keeps_member.ensures in
    let d = ap (λ (p : ℕ). hop_keeps v p 2) (ap begin_of c.in_ok-destination.was) in
    let o = ap (λ (p : ℕ). hop_keeps v p 3) (ap begin_of c.in_ok-organization.was) in
    once-each v c.args.o (sym c.byte.ensures ∙ c.if-byte-ne123.false) c.in_ok-members.ensures.0.0
    ∙ elim c.else-keeps_member.branch [
      | else-keeps_member-via-then-keeps_member+then-keeps_member-2+else-keeps_member-3 w ↦ rw (
        h ∙ w.if-keeps_member.true,
        d ∙ sym w.keeps_member-then-keeps_member.ensures ∙ w.if-keeps_member-2.true,
        o ∙ sym w.keeps_member-then-keeps_member-2.ensures ∙ w.if-keeps_member-3.false,
      )
      | else-keeps_member-via-then-keeps_member+else-keeps_member-2 w ↦ rw (
        h ∙ w.if-keeps_member.true,
        d ∙ sym w.keeps_member-then-keeps_member.ensures ∙ w.if-keeps_member-2.false,
      )
      | else-keeps_member-via-else-keeps_member w ↦ rw (h ∙ w.if-keeps_member.false)
    ]
