-- `keeper::steps::ask` meets its contract. By what its calls ensure, a law for each way out. Assumes nothing.
use Rattle.keeper.proofs.StepLaws.{asked-found, asked-new}
use Rattle.keeper.proofs.steps.ask.Goals as goal
use Rattle.table.proofs.LookupLaws.{found}
use mathlib.Core.Path.{sym, ◌∙◌}

pub agrees_at-agrees-requires : goal.agrees_at-agrees-requires
agrees_at-agrees-requires c =
    ((found _ _ _ (sym c.find_call.ensures ∙ c.in-Some.is)).inside, c.requires.1)

pub fields_at-requires : goal.fields_at-requires
fields_at-requires c = (found _ _ _ (sym c.find_call.ensures ∙ c.in-Some.is)).inside

pub leave-requires : goal.leave-requires
leave-requires c = (found _ _ _
    (sym c.find_call.ensures
    ∙ c.in-Some.is)).inside

pub returns-in-Some : goal.returns-in-Some
returns-in-Some c =
    asked-found c.args.t.now c.args.s.now c.args.m c.args.time c.requires.0 c.requires.1
    (sym c.find_call.ensures ∙ c.in-Some.is) c.agrees_at-agrees.ensures c.fields_at.ensures c.call_of-c.ensures.0
    c.call_of-c.ensures.1 c.event_of.ensures c.decide-o.ensures c.leave.ensures c.ranges.time.fits

pub returns-in-None : goal.returns-in-None
returns-in-None c =
    asked-new c.args.t.now c.args.s.now c.args.m c.args.time c.requires.0 c.requires.1
    (sym c.find_call.ensures ∙ c.in-None.is) c.event_of-in-None.ensures c.decide-o-in-None.ensures
    c.take.ensures
    c.ranges.time.fits
