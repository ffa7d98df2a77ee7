-- `fields::vias::element_from` meets its contract. An end that is known is the element's own. Assumes nothing.
use Rattle.fields.proofs.vias.element_from.Goals as goal
use Rattle.json_text.proofs.PlaceLaws.{behind-inner, behind-low}
use Rattle.json_text.specs.Places.{follows, past}
use Rattle.std.proofs.lemmas.Option.{MatchOption-at_some}
use mathlib.Core.Path.{ap, ◌∙◌}
use native.Mathlib.Omega.{arith}

pub returns-in-Some : goal.returns-in-Some
unfolding follows
returns-in-Some c = let v = c.args.v.now in let q = c.args.q in
    let e = MatchOption-at_some _ _ _ c.in-Some.is c.requires in
    record {
      ends = record { is = e; low = omega (arith, e, behind-low v q); inner = λ h. omega (arith, e, behind-inner v q h) };
      goes = record { is = c.skip-then.ensures.is ∙ ap (past v) e; low = c.skip-then.ensures.low; inner = c.skip-then.ensures.inner };
    }
