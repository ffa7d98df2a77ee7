-- Either range. Assumes nothing.
use Rattle.hex_text.proofs.is_hex_digit.Goals as goal
use Rattle.hex_text.specs.Digits.{is_lower_hex}
use Rattle.octets.specs.Class.{among}
use Rattle.std.proofs.lemmas.Bool.Decides.{nat_tests}
use native.Mathlib.Omega.{arith}

pub returns-in-48-to-57 : goal.returns-in-48-to-57
unfolding is_lower_hex among
returns-in-48-to-57 c = grind (arith, nat_tests)

pub returns-in-48-to-57-2 : goal.returns-in-48-to-57-2
unfolding is_lower_hex among
returns-in-48-to-57-2 c = grind (arith, nat_tests)

pub returns-in_default : goal.returns-in_default
unfolding is_lower_hex among
returns-in_default c = grind (arith, nat_tests)

pub returns-in_default-2 : goal.returns-in_default-2
unfolding is_lower_hex among
returns-in_default-2 c = grind (arith, nat_tests)

pub returns-in_default-3 : goal.returns-in_default-3
unfolding is_lower_hex among
returns-in_default-3 c = grind (arith, nat_tests)
