-- `keeper::steps::take_at` meets its contract. By what its calls ensure, a law for each way out. Assumes nothing.
use Rattle.std.specs.Prelude.{Some}
use Rattle.keeper.proofs.StepLaws.{taken-found}
use Rattle.keeper.proofs.steps.take_at.Goals as goal
use Rattle.table.proofs.LookupLaws.{free-found}
use Rattle.table.specs.Search.{free_place}
use mathlib.Core.Path.{◌≡◌, refl, sym, ◌∙◌}

pub open_at-requires : goal.open_at-requires
open_at-requires c =
    let e : free_place _ ≡ Some _ = sym c.free_place.ensures ∙ c.in-Some.is in
    ((free-found _ _ e).inside, c.requires)

pub returns-in-Some : goal.returns-in-Some
returns-in-Some c =
    taken-found c.args.t.now c.args.s.now c.args.m c.args.a c.args.c
    (sym c.free_place.ensures ∙ c.in-Some.is)
    c.open_at.ensures

pub returns-in-None : goal.returns-in-None
returns-in-None c = rw (sym c.free_place.ensures ∙ c.in-None.is) (refl, refl)
