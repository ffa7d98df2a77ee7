-- `message::reading::read` meets its contract: what is reported, the count aside. Assumes nothing.
use Rattle.message.proofs.ReadingLaws.{read_of}
use Rattle.message.proofs.reading.read.Goals as goal

pub returns : goal.returns
returns c = let x = c.args in read_of x.ceiling x.s.now c.read_and_count.ensures
