-- `writing::edits::add_to` meets its contract. One law of `WayLaws` for each way out. Assumes nothing.
use Rattle.message.proofs.AcceptedVia.{via-inside}
use Rattle.message.specs.Reading.{ample}
use Rattle.writing.proofs.PutLaws.{added-parts}
use Rattle.writing.proofs.TrailLaws.{trail-passed}
use Rattle.writing.proofs.WayLaws.{refused_as, wrote_as, no-adding, on-trail, sixteen, an_adding}
use Rattle.writing.proofs.edits.add_to.Goals as goal
use Rattle.writing.specs.declared.answers.Refusal.TheVariants.{Kind, Loop, Full}
use Rattle.writing.specs.Outcome.{write}
use mathlib.Core.Path.{ap}
use native.Mathlib.Omega.{arith}

pub returns-then-m-ne1 : goal.returns-then-m-ne1
returns-then-m-ne1 c = refused_as c.args.out.now Kind
    (no-adding c.args.s.now c.args.m c.args.path.host.now c.args.path.destination.now c.args.path.organization.now c.if-m-ne1.true)

pub has_ours-requires : goal.has_ours-requires
has_ours-requires c = via-inside ample c.args.s.now c.args.m c.requires (omega (arith, c.if-m-ne1.false))

pub returns-then-has_ours : goal.returns-then-has_ours
returns-then-has_ours c = refused_as c.args.out.now Loop
    (on-trail c.args.s.now c.args.m c.args.path.host.now c.args.path.destination.now c.args.path.organization.now c.if-m-ne1.false
    c.has_ours.ensures c.if-has_ours.true)

pub returns-then-m-eq16 : goal.returns-then-m-eq16
returns-then-m-eq16 c =
    refused_as c.args.out.now Full
    (sixteen c.args.s.now c.args.m c.args.path.host.now c.args.path.destination.now c.args.path.organization.now c.if-m-ne1.false
    c.has_ours.ensures c.if-has_ours.false (trail-passed c.args.s.now c.args.m c.requires (omega (arith, c.if-m-ne1.false))) c.if-m-eq16.true)

pub returns : goal.returns
returns c =
    wrote_as (an_adding c.args.s.now c.args.m c.args.path.host.now c.args.path.destination.now c.args.path.organization.now c.if-m-ne1.false
    c.has_ours.ensures c.if-has_ours.false (trail-passed c.args.s.now c.args.m c.requires (omega (arith, c.if-m-ne1.false))) c.if-m-eq16.false)
    (wrote_as (ap write (added-parts c.args.s.now c.args.m.trail.end c.args.path.host.now c.args.path.destination.now c.args.path.organization.now c.part.ensures c.part-2.ensures))
    c.put_parts.ensures)
