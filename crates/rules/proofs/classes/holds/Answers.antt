-- `classes::holds` meets its contract, arm by arm. Assumes nothing.
use Rattle.rules.proofs.classes.holds.Goals as goal
use Rattle.rules.specs.Classes.{holds}
use Rattle.std.proofs.Common.{arith}

pub returns-in-Digit : goal.returns-in-Digit
unfolding holds
returns-in-Digit c = rw c.in-Digit.is (grind arith)

pub returns-in-Lower : goal.returns-in-Lower
unfolding holds
returns-in-Lower c = rw c.in-Lower.is (grind arith)

pub returns-then-is_lower : goal.returns-then-is_lower
unfolding holds
returns-then-is_lower c = rw c.in-Small.is (grind arith)

pub returns-else-is_lower : goal.returns-else-is_lower
unfolding holds
returns-else-is_lower c = rw c.in-Small.is (grind arith)

pub returns-in-Alnum : goal.returns-in-Alnum
unfolding holds
returns-in-Alnum c = rw c.in-Alnum.is (grind arith)

pub returns-then-is_digit : goal.returns-then-is_digit
unfolding holds
returns-then-is_digit c = rw c.in-Fire.is (grind arith)

pub returns-else-is_digit : goal.returns-else-is_digit
unfolding holds
returns-else-is_digit c = rw c.in-Fire.is (grind arith)

pub returns-then-b-eq45 : goal.returns-then-b-eq45
unfolding holds
returns-then-b-eq45 c = rw c.in-Name.is (grind arith)

pub returns-else-b-eq45 : goal.returns-else-b-eq45
unfolding holds
returns-else-b-eq45 c = rw c.in-Name.is (grind arith)

pub returns-then-is_alnum-2 : goal.returns-then-is_alnum-2
unfolding holds
returns-then-is_alnum-2 c = rw c.in-Label.is (grind arith)

pub returns-else-is_alnum-2 : goal.returns-else-is_alnum-2
unfolding holds
returns-else-is_alnum-2 c = rw c.in-Label.is (grind arith)

pub returns-then-b-ne34 : goal.returns-then-b-ne34
unfolding holds
returns-then-b-ne34 c = rw c.in-Graphic.is (grind arith)

pub returns-else-b-ne34 : goal.returns-else-b-ne34
unfolding holds
returns-else-b-ne34 c = rw c.in-Graphic.is (grind arith)
