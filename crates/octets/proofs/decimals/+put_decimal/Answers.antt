use Prim.Native.Nat.{◌+◌}
use Rattle.octets.proofs.Chain.{set-one}
use Rattle.octets.proofs.DecimalLaws.{shown-small, length-small, length-large, digit-behind}
use borrow.Author.Rules.{rules}
use native.Mathlib.Omega.{arith}
use Rattle.octets.proofs.decimals.+put_decimal.Goals as goal

pub bounds-out-at : goal.bounds-out-at
bounds-out-at t c = omega (arith, length-small c.args.v c.if-v-lt10.true)

pub returns-then-v-lt10 : goal.returns-then-v-lt10
returns-then-v-lt10 t c =
    let x = c.args in
    let l = length-small x.v c.if-v-lt10.true in
    (omega arith, rw (shown-small x.v c.if-v-lt10.true) (set-one x.out.now x.at (48 + x.v) (omega arith)))

pub put_decimal-p-requires : goal.put_decimal-p-requires
put_decimal-p-requires t c =
    let x = c.args in
    (search rules, omega (arith, length-large x.v c.if-v-lt10.false (omega (arith, c.ranges.v))))

pub bounds-out-p : goal.bounds-out-p
bounds-out-p t c =
    let x = c.args in
    (digit-behind x.out.now x.at x.v (omega (arith, c.if-v-lt10.false)) (omega (arith, c.ranges.v)) c.requires c.put_decimal-p.ensures).0

pub overflow_add-result-2 : goal.overflow_add-result-2
overflow_add-result-2 t c =
    let x = c.args in
    let d = digit-behind x.out.now x.at x.v (omega (arith, c.if-v-lt10.false)) (omega (arith, c.ranges.v)) c.requires c.put_decimal-p.ensures in
    omega (arith, d.1.0, c.requires)

pub returns : goal.returns
returns t c =
    let x = c.args in
    (digit-behind x.out.now x.at x.v (omega (arith, c.if-v-lt10.false)) (omega (arith, c.ranges.v)) c.requires c.put_decimal-p.ensures).1
