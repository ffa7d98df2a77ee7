-- One row of the table for each way out. Assumes nothing.
use Rattle.escapes.proofs.EncodingLaws.{at_least_one, length_two, length_three, length-four}
use Rattle.escapes.proofs.StoreLaws.{stored_one, stored-two, stored-three, stored-four}
use Rattle.escapes.proofs.storing.put_code.Goals as goal
use native.Mathlib.Omega.{arith}

pub put_byte-requires : goal.put_byte-requires
put_byte-requires c = let x = c.args in omega (arith, at_least_one x.c)

pub returns-then-c-lt128 : goal.returns-then-c-lt128
returns-then-c-lt128 c =
    let x = c.args in
    stored_one x.out.now x.at x.c (omega arith) c.put_byte.ensures

pub put_two-requires : goal.put_two-requires
put_two-requires c =
    let x = c.args in
    omega (arith, length_two x.c (omega arith) (omega arith))

pub returns-then-c-lt2048 : goal.returns-then-c-lt2048
returns-then-c-lt2048 c =
    let x = c.args in
    stored-two x.out.now x.at x.c c.low.result (omega arith) (omega arith) c.low.ensures
    c.put_two.ensures

pub put_three-requires : goal.put_three-requires
put_three-requires c =
    let x = c.args in
    omega (arith, length_three x.c (omega arith) (omega arith))

pub returns-then-c-lt65536 : goal.returns-then-c-lt65536
returns-then-c-lt65536 c =
    let x = c.args in stored-three x.out.now x.at x.c c.low-then-c-lt65536.result c.low-then-c-lt65536-2.result (omega arith) (omega arith)
    c.low-then-c-lt65536.ensures c.low-then-c-lt65536-2.ensures c.put_three.ensures

pub put_four-requires : goal.put_four-requires
put_four-requires c =
    let x = c.args in
    omega (arith, length-four x.c (omega arith))

pub returns : goal.returns
returns c =
    let x = c.args in stored-four x.out.now x.at x.c c.low-2.result c.low-3.result c.low-4.result (omega arith)
    c.low-2.ensures c.low-3.ensures c.low-4.ensures c.put_four.ensures
