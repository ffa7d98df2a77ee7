-- `keeper::steps::ticked` meets its contract. By what its calls ensure, a law for each way out. Assumes nothing.
use Rattle.call.specs.declared.records.Outcome.{Outcome}
use Rattle.keeper.proofs.StepLaws.{ticked-found}
use Rattle.keeper.proofs.steps.ticked.Goals as goal
use Rattle.table.proofs.LookupLaws.{found}
use mathlib.Core.Path.{sym, ap, refl, ◌∙◌}

pub fields_at-requires : goal.fields_at-requires
fields_at-requires c = (found _ _ _ (sym c.find.ensures ∙ c.in-Some.is)).inside

pub leave-requires : goal.leave-requires
leave-requires c =
    (found _ _ _ (sym c.find.ensures ∙ c.in-Some.is)).inside

pub returns-in-Some : goal.returns-in-Some
returns-in-Some c =
    ticked-found c.args.t.now c.args.id.now c.args.time c.requires (sym c.find.ensures ∙ c.in-Some.is)
    c.fields_at.ensures c.call_of-c.ensures.0 c.call_of-c.ensures.1 c.decide-o.ensures c.leave.ensures
    c.ranges.time.fits

pub returns-in-None : goal.returns-in-None
returns-in-None c = rw (sym c.find.ensures ∙ c.in-None.is)
    (ap (λ (o : Outcome). o.answer) c.decide.ensures, refl, c.requires)
