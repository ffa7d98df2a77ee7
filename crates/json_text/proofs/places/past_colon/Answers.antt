-- Three walks, one after the other. Assumes nothing.
use Rattle.json_text.proofs.PlaceLaws as laws
use Rattle.json_text.proofs.places.past_colon.Goals as goal
use Rattle.json_text.specs.Places.{past, next}

pub returns : goal.returns
returns c = let s = c.args.s.now in
    laws.found-then (past s) (laws.found-then (next s) c.skip-c.ensures c.next-d.ensures) c.skip.ensures
