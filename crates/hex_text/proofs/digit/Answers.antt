-- Digits and letters. Assumes nothing.
use Rattle.hex_text.proofs.digit.Goals as goal
use Rattle.hex_text.specs.Digits.{digit_of}
use borrow.Author.Tests.{le-ltb, lt-ltb}

pub returns-then-n-lt10 : goal.returns-then-n-lt10
unfolding digit_of
returns-then-n-lt10 c = rw (lt-ltb _ _ c.if-n-lt10.true)

pub returns-else-n-lt10 : goal.returns-else-n-lt10
unfolding digit_of
returns-else-n-lt10 c = rw (le-ltb _ _ c.if-n-lt10.false)
