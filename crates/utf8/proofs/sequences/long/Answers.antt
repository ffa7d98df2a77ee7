-- `utf8::sequences::long` meets its contract. One law of `Rows` for each row. Assumes nothing.
use Rattle.utf8.proofs.Rows.{four, four-F0, four-F4, beyond}
use Rattle.utf8.proofs.sequences.long.Goals as goal
use native.Mathlib.Omega.{arith}

pub returns-then-b-eq240 : goal.returns-then-b-eq240
returns-then-b-eq240 c = let x = c.args in rw (four-F0 x.b (omega arith) c.if-b-eq240.true) c.four.ensures

pub returns-then-b-lt244 : goal.returns-then-b-lt244
returns-then-b-lt244 c = let x = c.args in rw (four x.b (omega arith) c.if-b-eq240.false c.if-b-lt244.true) c.four-then-b-lt244.ensures

pub returns-then-b-eq244 : goal.returns-then-b-eq244
returns-then-b-eq244 c = let x = c.args in rw (four-F4 x.b (omega arith) c.if-b-eq244.true) c.four-then-b-eq244.ensures

pub returns : goal.returns
returns c = let x = c.args in rw (beyond x.b (omega arith) (omega arith) c.if-b-eq244.false)
