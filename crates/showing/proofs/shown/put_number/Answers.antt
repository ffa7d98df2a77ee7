-- Two parts, one behind the other; a number has at most 20 digits. Assumes nothing.
use Rattle.octets.proofs.DecimalLaws.{shown-length}
use Rattle.octets.specs.Decimal.{shown}
use Rattle.showing.proofs.ShownLaws.{put_two}
use Rattle.showing.proofs.shown.put_number.Goals as goal
use native.Mathlib.Omega.{arith}

pub put_decimal-behind-requires : goal.put_decimal-behind-requires
put_decimal-behind-requires c = omega (arith, shown-length c.args.n (omega arith))

pub put-requires : goal.put-requires
put-requires c = omega (arith, shown-length c.args.n (omega arith))

pub returns : goal.returns
returns c =
    let x = c.args in
    put_two x.out.now x.at (shown x.n) x.then.now (omega (arith, shown-length x.n (omega arith))) c.put_decimal-behind.ensures
    c.put.ensures
