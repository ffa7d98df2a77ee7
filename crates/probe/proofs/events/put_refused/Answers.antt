-- A chain of four parts. Assumes nothing.
use Rattle.octets.specs.Ascii.{ascii}
use Rattle.probe.proofs.EventLaws.{event-refused}
use Rattle.probe.proofs.events.put_refused.Goals as goal
use Rattle.showing.proofs.ShownLaws.{number-length}
use native.Mathlib.Omega.{arith}

pub put_number-before_reply-requires : goal.put_number-before_reply-requires
put_number-before_reply-requires c = omega (arith, number-length c.number.result (ascii " ") (omega arith))

pub put_number-requires : goal.put_number-requires
put_number-requires c =
    omega (
      arith,
      number-length c.number.result (ascii " ") (omega arith),
      number-length c.place.result (ascii " ") (omega arith),
    )

pub returns : goal.returns
returns c =
    let x = c.args in
    event-refused x.out.now x.f c.number.ensures
    c.place.ensures c.reply.ensures
    c.put-before_number.ensures
    c.put_number-before_place.ensures c.put_number-before_reply.ensures c.put_number.ensures
