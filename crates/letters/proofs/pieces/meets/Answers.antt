-- `pieces::meets` meets its contract, by what stands for m digits. Assumes nothing.
use Rattle.letters.proofs.LoopLaws.{meets-high, meets-low}
use Rattle.letters.proofs.pieces.meets.Goals as goal

pub returns-then-lo-v : goal.returns-then-lo-v
returns-then-lo-v c = let x = c.args in meets-high x.lo x.hi x.m x.v c.pow-unit.result (cc) c.if-lo-v.true

pub returns-else-lo-v : goal.returns-else-lo-v
returns-else-lo-v c = let x = c.args in meets-low x.lo x.hi x.m x.v c.pow-unit.result (cc) c.if-lo-v.false
