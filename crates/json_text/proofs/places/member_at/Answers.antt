-- Four walks, each from where the one before it ended. Assumes nothing.
use Rattle.json_text.proofs.PlaceLaws as laws
use Rattle.json_text.proofs.places.member_at.Goals as goal
use Rattle.json_text.specs.Places.{behind}

pub returns : goal.returns
returns c = let q = c.behind-e.ensures in let v = laws.value_found _ q.is c.past_colon-v.ensures in
    let b = c.behind-w.ensures in record { named = q; begins = v; ends = laws.found_at (behind _) v.is b; goes = laws.follows-found v.is b c.skip-t.ensures }
