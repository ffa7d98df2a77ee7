-- The byte before the string's end. Assumes nothing.
use Rattle.json_text.proofs.PlaceLaws as laws
use Rattle.json_text.proofs.places.closing.Goals as goal
use native.Mathlib.Omega.{arith}

pub returns-then-e-eq0 : goal.returns-then-e-eq0
returns-then-e-eq0 c = let l = c.args in let q = laws.closing-is l.s.now l.q c.behind-e.ensures in omega arith

pub returns-else-e-eq0 : goal.returns-else-e-eq0
returns-else-e-eq0 c = let l = c.args in let q = laws.closing-is l.s.now l.q c.behind-e.ensures in omega arith
