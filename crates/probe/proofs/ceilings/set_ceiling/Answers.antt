-- By the word. Assumes nothing.
use Rattle.probe.proofs.CeilingLaws.{a-ceiling, no-ceiling}
use Rattle.probe.proofs.ceilings.set_ceiling.Goals as goal
use Rattle.showing.proofs.WordLaws.{to-small}
use Rattle.showing.specs.Words.{numeral}
use mathlib.Core.Path.{◌∙◌, sym}
use native.Mathlib.Omega.{arith}

pub overflow_cast-result : goal.overflow_cast-result
overflow_cast-result c = omega (arith, to-small 4294967295 (numeral c.args.word.now) (sym c.number_to.ensures ∙ c.in-Some.is))

pub returns-in-Some : goal.returns-in-Some
returns-in-Some c =
    let x = c.args in a-ceiling x.out.now x.ceiling x.word.now (sym c.number_to.ensures ∙ c.in-Some.is) c.put.ensures

pub returns-in-None : goal.returns-in-None
returns-in-None c =
    let x = c.args in no-ceiling x.out.now x.ceiling x.word.now (sym c.number_to.ensures ∙ c.in-None.is) c.put_unknown.ensures
