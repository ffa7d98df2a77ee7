-- What stands behind the place that is found; nothing where it is the end. Assumes nothing.
use Rattle.showing.proofs.WordLaws.{found-short, rest-found, rest-none}
use Rattle.showing.proofs.words.rest.Goals as goal
use native.Mathlib.Omega.{arith}

pub returns-then-gap-words : goal.returns-then-gap-words
returns-then-gap-words c = rest-found c.args.words.now c.find-gap.ensures

pub slice_bounds-result-count-2 : goal.slice_bounds-result-count-2
slice_bounds-result-count-2 c = omega (arith, found-short c.args.words.now c.find-gap.ensures)

pub slice_bounds-result-start-2 : goal.slice_bounds-result-start-2
slice_bounds-result-start-2 c = omega (arith, found-short c.args.words.now c.find-gap.ensures)

pub returns : goal.returns
returns c = rest-none c.args.words.now c.find-gap.ensures c.if-gap-words.false
