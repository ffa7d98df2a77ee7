-- What stands before the place that is found. Assumes nothing.
use Rattle.showing.proofs.WordLaws.{first_found, found-short}
use Rattle.showing.proofs.words.first.Goals as goal
use native.Mathlib.Omega.{arith}

pub slice_bounds-result-end : goal.slice_bounds-result-end
slice_bounds-result-end c = omega (arith, found-short c.args.words.now c.find-gap.ensures)

pub returns : goal.returns
returns c = first_found c.args.words.now c.find-gap.ensures
