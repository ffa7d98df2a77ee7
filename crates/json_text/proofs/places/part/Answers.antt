-- One law for each way that the two places can lie. Assumes nothing.
use Rattle.json_text.proofs.PlaceLaws as laws
use Rattle.json_text.proofs.places.part.Goals as goal
use mathlib.Core.Path.{sym}
use native.Mathlib.Omega.{arith}

pub returns-then-e-a : goal.returns-then-e-a
returns-then-e-a c = let l = c.args in sym (laws.part_none l.s.now l.a l.e c.if-e-a.true)

pub returns-then-s-a : goal.returns-then-s-a
returns-then-s-a c = let l = c.args in sym (laws.part-past l.s.now l.a l.e c.if-s-a.true)

pub returns-then-s-e : goal.returns-then-s-e
returns-then-s-e c = let l = c.args in sym (laws.part-rest l.s.now l.a l.e (omega arith))

pub returns : goal.returns
returns c = let l = c.args in sym (laws.part-is l.s.now l.a l.e)
