-- Two walks, one after the other. Assumes nothing.
use Rattle.json_text.proofs.PlaceLaws as laws
use Rattle.json_text.proofs.places.element_at.Goals as goal
use mathlib.Core.Path.{refl}

pub returns : goal.returns
returns c = let b = c.behind-w.ensures in record { ends = b; goes = laws.follows-found refl b c.skip-t.ensures }
