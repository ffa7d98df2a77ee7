-- `octets::classes::is_digit` meets its contract. By what the library's test answers. Assumes nothing.
use Rattle.octets.proofs.classes.is_digit.Goals as goal
use Rattle.octets.specs.Class.{among, is_digit}

pub returns : goal.returns
unfolding is_digit among
returns c = c.is_ascii_digit.ensures.value
