-- A space is found before the end. Assumes nothing.
use Rattle.showing.proofs.WordLaws.{space_found}
use Rattle.showing.proofs.words.has_space.Goals as goal

pub returns : goal.returns
returns c = space_found c.args.words.now c.find.ensures
