-- `values::time_reach` meets its contract, piece by piece. Assumes nothing.
use Rattle.letters.proofs.JoinLaws.{fixed-is, number_is}
use Rattle.letters.proofs.values.time_reach.Goals as goal
use Rattle.letters.specs.inner.Reach.{reach_of}
use Rattle.octets.specs.Ascii.{ascii}

pub returns : goal.returns
unfolding reach_of
returns c =
    let s = c.args.s.now in
    fixed-is _ s 10 (ascii "T")
    (number_is 0 23 _ s 11 2
    (fixed-is _ s 13 (ascii ":")
    (number_is 0 59 _ s 14 2
    (fixed-is _ s 16 (ascii ":")
    (number_is 0 59 _ s 17 2 c.zone_reach.ensures
    c.number_or-second.ensures)
    c.fixed_or.ensures)
    c.number_or-minute.ensures)
    c.fixed_or-2.ensures)
    c.number_or-hour.ensures)
    c.fixed_or-3.ensures
