-- `octets::classes::is_lower` meets its contract. By what the library's test answers. Assumes nothing.
use Rattle.octets.proofs.classes.is_lower.Goals as goal
use Rattle.octets.specs.Class.{among, is_lower}

pub returns : goal.returns
unfolding is_lower among
returns c = c.is_ascii_lowercase.ensures.value
