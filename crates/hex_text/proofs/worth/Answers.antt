-- By the range that the byte is in. Assumes nothing.
use Rattle.hex_text.proofs.worth.Goals as goal
use Rattle.hex_text.specs.Digits.{worth_of}
use Rattle.octets.specs.Class.{among}
use Rattle.std.proofs.lemmas.Bool.Decides.{nat_tests}
use native.Mathlib.Omega.{arith}

pub returns-in-48-to-57 : goal.returns-in-48-to-57
unfolding worth_of among
returns-in-48-to-57 c = grind (arith, nat_tests)

pub returns-in-97-to-102 : goal.returns-in-97-to-102
unfolding worth_of among
returns-in-97-to-102 c = grind (arith, nat_tests)

pub returns-in_default : goal.returns-in_default
unfolding worth_of among
returns-in_default c = grind (arith, nat_tests)

pub returns-in_default-2 : goal.returns-in_default-2
unfolding worth_of among
returns-in_default-2 c = grind (arith, nat_tests)

pub returns-in_default-3 : goal.returns-in_default-3
unfolding worth_of among
returns-in_default-3 c = grind (arith, nat_tests)
