-- One part, or a chain of three. Assumes nothing.
use Rattle.octets.proofs.Chain.{more, start}
use Rattle.octets.specs.Ascii.{ascii}
use Rattle.showing.proofs.ReadingLaws.{reading-refused}
use Rattle.showing.proofs.ShownLaws.{number-length}
use Rattle.showing.proofs.readings.put_reading.Goals as goal
use Rattle.showing.specs.Readings.{reading_text}
use native.Mathlib.Omega.{arith}

pub put_number-requires : goal.put_number-requires
put_number-requires c = omega
    (arith, number-length c.number.result (ascii " ") (omega arith))

pub returns-in-Ok : goal.returns-in-Ok
unfolding reading_text
returns-in-Ok c = rw c.in-Ok.is
    (let w = more (ascii "ok ") (start c.args.out.now) c.put.ensures in ((w.place, w.is), omega (arith, w.place)))

pub returns-in-Err : goal.returns-in-Err
returns-in-Err c =
    rw c.in-Err.is (
      reading-refused c.args.out.now c.in-Err.why c.number.ensures c.place.ensures c.put-before_number.ensures c.put_number-before_place.ensures c.put_number.ensures,
      omega (
        arith,
        c.put-before_number.ensures.0,
        c.put_number-before_place.ensures.0,
        c.put_number.ensures.0,
        number-length c.number.result (ascii " ") (omega arith),
        number-length c.place.result (ascii " ") (omega arith),
      ),
    )
