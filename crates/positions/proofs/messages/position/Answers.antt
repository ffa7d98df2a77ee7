-- `positions::messages::position` meets its contract, by the message's kind. Assumes nothing.
use Prim.Native.Nat.{ℕ}
use Rattle.positions.proofs.MessageLaws.{field-is, of-invite, of-live, of-none, one-alone}
use Rattle.positions.proofs.messages.position.Goals as goal
use Rattle.positions.specs.Objects.{live_in, locations_in}
use Rattle.positions.specs.Positions.{field_bytes}
use Rattle.positions.specs.declared.objects.Position.{Position}
use Rattle.std.specs.Prelude.{Some, slice_get}
use mathlib.Core.List.{List}
use mathlib.Core.Path.{ap, sym, ◌∙◌}

pub returns-then-is_request : goal.returns-then-is_request
returns-then-is_request c =
    let s = c.args.s.now in
    c.location_in.ensures ∙ ap (λ (v : List ℕ). slice_get (locations_in v) c.args.k) (field-is s 21 c.requires c.value_part.ensures)
    ∙ sym (ap (λ (l : List Position). slice_get l c.args.k) (of-invite s c.args.a.now.message (sym c.is_request.ensures ∙ c.if-is_request.true)))

pub returns-then-not-is_live : goal.returns-then-not-is_live
returns-then-not-is_live c =
    let a = c.args.a.now.message in
    sym (ap (λ (l : List Position). slice_get l c.args.k)
    (of-none c.args.s.now a (sym c.is_request.ensures ∙ c.if-is_request.false) (sym c.is_live.ensures ∙ c.if-not-is_live.true)))

pub returns-then-k-eq0 : goal.returns-then-k-eq0
returns-then-k-eq0 c =
    let s = c.args.s.now in
    let many = of-live s c.args.a.now.message (sym c.is_request.ensures ∙ c.if-is_request.false) (sym c.is_live.ensures ∙ c.if-not-is_live.false) in
    ap Some (c.live_in.ensures ∙ ap live_in (field-is s 10 c.requires c.value_part-then-k-eq0.ensures))
    ∙ sym (ap (λ (l : List Position). slice_get l c.args.k) many ∙ rw c.if-k-eq0.true)

pub returns-else-k-eq0 : goal.returns-else-k-eq0
returns-else-k-eq0 c =
    let s = c.args.s.now in
    let many = of-live s c.args.a.now.message (sym c.is_request.ensures ∙ c.if-is_request.false) (sym c.is_live.ensures ∙ c.if-not-is_live.false) in
    one-alone (live_in (field_bytes s 10)) c.args.k c.if-k-eq0.false ∙ sym (ap (λ (l : List Position). slice_get l c.args.k) many)
