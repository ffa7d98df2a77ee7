-- `table::blanking::header` meets its contract. The 16 bytes are those of the definition, computed. Assumes nothing.
use Rattle.octets.specs.Number.{bytes_of}
use Rattle.table.proofs.blanking.header.Goals as goal
use Rattle.table.specs.Image.{header_of}
use borrow.Author.Rules.{rules}

pub returns : goal.returns
unfolding header_of bytes_of
returns c = search rules
