-- `writing::edits::remove_from` meets its contract. One law of `WayLaws` for each way out. Assumes nothing.
use Rattle.std.proofs.lemmas.Result.{err_from_is_err_and}
use Rattle.writing.proofs.PutLaws.{removed-parts}
use Rattle.writing.proofs.TrailLaws.{trail-passed}
use Rattle.writing.proofs.WayLaws.{took-refused, no-removing, too_few, not_ours, took-done, took-not, wrote_as}
use Rattle.writing.proofs.edits.remove_from.Goals as goal
use Rattle.writing.specs.declared.answers.Refusal.TheVariants.{Kind, Few, Foreign}
use mathlib.Core.Path.{sym, ap, ◌∙◌}
use Rattle.writing.specs.Outcome.{write}
use native.Mathlib.Omega.{arith}

pub returns-then-m-ne2 : goal.returns-then-m-ne2
returns-then-m-ne2 c = took-refused c.args.out.now c.args.m.trail.host Kind (no-removing c.args.s.now c.args.m c.args.path.host.now c.args.path.destination.now c.if-m-ne2.true)

pub returns-then-trail-lt2 : goal.returns-then-trail-lt2
returns-then-trail-lt2 c = took-refused c.args.out.now c.args.m.trail.host Few
    (too_few c.args.s.now c.args.m c.args.path.host.now c.args.path.destination.now c.if-m-ne2.false
    (trail-passed c.args.s.now c.args.m c.requires (omega (arith, c.if-m-ne2.false))) c.if-trail-lt2.true)

pub returns-then-not-is_ours : goal.returns-then-not-is_ours
returns-then-not-is_ours c =
    took-refused c.args.out.now c.args.m.trail.host Foreign
    (not_ours c.args.s.now c.args.m c.args.path.host.now c.args.path.destination.now c.if-m-ne2.false
    (trail-passed c.args.s.now c.args.m c.requires (omega (arith, c.if-m-ne2.false))) c.if-trail-lt2.false c.value_part.ensures
    (sym c.is_ours.ensures ∙ c.if-not-is_ours.true))

pub returns-in_err-length : goal.returns-in_err-length
returns-in_err-length c =
    let p = err_from_is_err_and c.from_residual.result c.from_residual.ensures.1 in
    rw (p.1, p.2)
    (took-not c.args.s.now c.args.m c.args.path.host.now c.args.path.destination.now c.if-m-ne2.false
    (trail-passed c.args.s.now c.args.m c.requires (omega (arith, c.if-m-ne2.false))) c.if-trail-lt2.false c.value_part.ensures
    (sym c.is_ours.ensures ∙ c.if-not-is_ours.false) c.in_err-length.was
    (wrote_as (ap write (removed-parts c.args.s.now c.args.m.trail.seam c.args.m.trail.end c.part.ensures c.part-2.ensures)) c.put_parts.ensures))

pub returns : goal.returns
returns c =
    took-done c.args.s.now c.args.m c.args.path.host.now c.args.path.destination.now c.if-m-ne2.false
    (trail-passed c.args.s.now c.args.m c.requires (omega (arith, c.if-m-ne2.false))) c.if-trail-lt2.false c.value_part.ensures
    (sym c.is_ours.ensures ∙ c.if-not-is_ours.false) c.in_ok-length.was
    (wrote_as (ap write (removed-parts c.args.s.now c.args.m.trail.seam c.args.m.trail.end c.part.ensures c.part-2.ensures)) c.put_parts.ensures)
