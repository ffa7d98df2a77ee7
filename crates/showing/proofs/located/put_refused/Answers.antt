-- A chain of three. Assumes nothing.
use Rattle.octets.specs.Ascii.{ascii}
use Rattle.showing.proofs.LocatedLaws.{refused-shown}
use Rattle.showing.proofs.ShownLaws.{number-length}
use Rattle.showing.proofs.located.put_refused.Goals as goal
use native.Mathlib.Omega.{arith}

pub put_number-requires : goal.put_number-requires
put_number-requires c = omega (arith, c.put-number.ensures.0, c.put_number-place.ensures.0, number-length c.number.result (ascii " ") (omega arith))

pub returns : goal.returns
returns c = refused-shown c.args.out.now c.args.s.now c.args.why c.number.ensures c.place.ensures c.put-number.ensures c.put_number-place.ensures c.put_number.ensures
