-- `writing::edits::add` meets its contract: our own path, then what is read, decide. Assumes nothing.
use Rattle.writing.proofs.WayLaws.{refused_as, wrote_as, bad-path, add_none, add_of}
use Rattle.writing.proofs.edits.add.Goals as goal
use Rattle.writing.specs.declared.answers.Refusal.TheVariants.{Path, Kind}
use mathlib.Core.Path.{sym, ◌∙◌}

pub returns-then-not-is_kept : goal.returns-then-not-is_kept
returns-then-not-is_kept c =
    let x = c.args in
    refused_as x.out.now Path (bad-path x.s.now x.path.host.now x.path.destination.now x.path.organization.now
    (sym c.is_kept.ensures ∙ c.if-not-is_kept.true))

pub add_to-requires : goal.add_to-requires
add_to-requires c = sym c.read.ensures ∙ c.in-Ok.is

pub returns-in-Err : goal.returns-in-Err
returns-in-Err c =
    let x = c.args in refused_as x.out.now Kind
    (add_none x.s.now x.path.host.now x.path.destination.now x.path.organization.now (sym c.is_kept.ensures ∙ c.if-not-is_kept.false)
    _ (sym c.read.ensures ∙ c.in-Err.is))

pub returns-in-Ok : goal.returns-in-Ok
returns-in-Ok c =
    let x = c.args in wrote_as
    (add_of x.s.now x.path.host.now x.path.destination.now x.path.organization.now (sym c.is_kept.ensures ∙ c.if-not-is_kept.false) _
    (sym c.read.ensures ∙ c.in-Ok.is)) c.add_to.ensures
