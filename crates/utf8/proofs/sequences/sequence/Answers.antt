-- `utf8::sequences::sequence` meets its contract. One law of `Rows` for each row. Assumes nothing.
use Rattle.utf8.proofs.Rows.{one, lone, two, three, three-E0, three-ED, char-here}
use Rattle.utf8.proofs.sequences.sequence.Goals as goal
use Rattle.utf8.specs.Rfc3629.{goes_on}
use lib.ListN.{get_or}
use native.Mathlib.Omega.{arith}

pub returns-then-b-lt128 : goal.returns-then-b-lt128
unfolding goes_on
returns-then-b-lt128 c = let x = c.args in let b = get_or x.s.now x.at 0 in rw (char-here x.s.now x.at (omega arith), one b c.if-b-lt128.true)

pub returns-then-b-lt194 : goal.returns-then-b-lt194
returns-then-b-lt194 c = let x = c.args in let b = get_or x.s.now x.at 0 in
    rw (char-here x.s.now x.at (omega arith), lone b (omega arith) c.if-b-lt194.true)

pub returns-then-b-lt224 : goal.returns-then-b-lt224
returns-then-b-lt224 c = let x = c.args in let b = get_or x.s.now x.at 0 in
    rw (char-here x.s.now x.at (omega arith), two b (omega arith) (omega arith)) c.two.ensures

pub returns-then-b : goal.returns-then-b
returns-then-b c = let x = c.args in let b = get_or x.s.now x.at 0 in
    rw (char-here x.s.now x.at (omega arith), three-E0 b c.if-b.true) c.three.ensures

pub returns-then-b-2 : goal.returns-then-b-2
returns-then-b-2 c = let x = c.args in let b = get_or x.s.now x.at 0 in
    rw (char-here x.s.now x.at (omega arith), three-ED b c.if-b-2.true) c.three-then-b-2.ensures

pub returns-then-b-lt240 : goal.returns-then-b-lt240
returns-then-b-lt240 c = let x = c.args in let b = get_or x.s.now x.at 0 in
    rw (char-here x.s.now x.at (omega arith), three b (omega arith) (omega arith) c.if-b.false c.if-b-2.false) c.three-then-b-lt240.ensures

pub returns : goal.returns
returns c = let x = c.args in rw (char-here x.s.now x.at (omega arith)) c.long.ensures
