-- `values::zone_reach` meets its contract, piece by piece. Assumes nothing.
use Rattle.letters.proofs.JoinLaws.{fixed-is, number_is}
use Rattle.letters.proofs.values.zone_reach.Goals as goal
use Rattle.letters.specs.inner.Reach.{end_reach, reach_of}
use Rattle.octets.specs.Ascii.{ascii}
use mathlib.Core.Path.{refl}

pub returns : goal.returns
unfolding reach_of end_reach
returns c =
    let s = c.args.s.now in
    fixed-is _ s 19 (ascii "+")
    (number_is 0 14 _ s 20 2
    (number_is 0 59 _ s 22 2 refl c.number_or-minute.ensures) c.number_or.ensures) c.fixed_or.ensures
