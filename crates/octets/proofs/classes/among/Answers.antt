-- `octets::classes::among` meets its contract. By what the library's range holds. Assumes nothing.
use Rattle.octets.proofs.classes.among.Goals as goal
use Rattle.octets.specs.Class.{among}
use borrow.Author.Rules.{rules}

pub returns : goal.returns
unfolding among
returns c = search rules
