-- `writing::edits::remove` meets its contract: our own path, then what is read, decide. Assumes nothing.
use Rattle.message.specs.Reading.{ample, reading}
use Rattle.writing.proofs.WayLaws.{took-refused, took_as, wrong-path, remove-none, remove_of, host_of_lem}
use Rattle.writing.proofs.edits.remove.Goals as goal
use Rattle.writing.specs.Removing.{host_in}
use Rattle.writing.specs.declared.answers.Refusal.TheVariants.{Path, Kind}
use mathlib.Core.Path.{sym, ◌∙◌}

pub returns-then-not-is_kept : goal.returns-then-not-is_kept
returns-then-not-is_kept c =
    let x = c.args in
    took-refused x.out.now (host_in (reading ample x.s.now)) Path
    (wrong-path x.s.now x.path.host.now x.path.destination.now x.path.organization.now (sym c.is_kept.ensures ∙ c.if-not-is_kept.true))

pub remove_from-requires : goal.remove_from-requires
remove_from-requires c = sym c.read.ensures ∙ c.in-Ok.is

pub returns-in-Err : goal.returns-in-Err
returns-in-Err c =
    let x = c.args in took-refused x.out.now (host_in (reading ample x.s.now)) Kind
    (remove-none x.s.now x.path.host.now x.path.destination.now x.path.organization.now
    (sym c.is_kept.ensures ∙ c.if-not-is_kept.false) _ (sym c.read.ensures ∙ c.in-Err.is))

pub returns-in-Ok : goal.returns-in-Ok
returns-in-Ok c =
    let x = c.args in let e = sym c.read.ensures ∙ c.in-Ok.is in
    took_as (host_of_lem x.s.now _ e)
    (remove_of x.s.now x.path.host.now x.path.destination.now x.path.organization.now (sym c.is_kept.ensures ∙ c.if-not-is_kept.false) _ e)
    c.remove_from.ensures
