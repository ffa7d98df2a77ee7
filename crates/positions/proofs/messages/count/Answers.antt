-- `positions::messages::count` meets its contract, by the message's kind. Assumes nothing.
use Prim.Native.Nat.{ℕ}
use Rattle.positions.proofs.MessageLaws.{field-is, of-invite, of-live, of-none}
use Rattle.positions.proofs.messages.count.Goals as goal
use Rattle.positions.specs.Objects.{locations_in}
use Rattle.positions.specs.declared.objects.Position.{Position}
use lib.ListN.{length}
use mathlib.Core.List.{List}
use mathlib.Core.Path.{ap, sym, ◌∙◌}

pub returns-then-is_request : goal.returns-then-is_request
returns-then-is_request c =
    let s = c.args.s.now in
    c.count_locations.ensures ∙ ap (λ (v : List ℕ). length (locations_in v)) (field-is s 21 c.requires c.value_part.ensures)
    ∙ sym (ap (λ (l : List Position). length l) (of-invite s c.args.a.now.message (sym c.is_request.ensures ∙ c.if-is_request.true)))

pub returns-then-is_live : goal.returns-then-is_live
returns-then-is_live c =
    let a = c.args.a.now.message in
    sym (ap (λ (l : List Position). length l) (of-live c.args.s.now a (sym c.is_request.ensures ∙ c.if-is_request.false) (sym c.is_live.ensures ∙ c.if-is_live.true)))

pub returns-else-is_live : goal.returns-else-is_live
returns-else-is_live c =
    let a = c.args.a.now.message in
    sym (ap (λ (l : List Position). length l) (of-none c.args.s.now a (sym c.is_request.ensures ∙ c.if-is_request.false) (sym c.is_live.ensures ∙ c.if-is_live.false)))
