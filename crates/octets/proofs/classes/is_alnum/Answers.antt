-- `octets::classes::is_alnum` meets its contract. By what the library's test answers. Assumes nothing.
use Rattle.octets.proofs.ClassLaws.{alnum_of}
use Rattle.octets.proofs.classes.is_alnum.Goals as goal
use Rattle.octets.specs.Class.{among}

pub returns : goal.returns
unfolding among
returns c = alnum_of c.args.b c.is_ascii_alphanumeric.ensures.value
