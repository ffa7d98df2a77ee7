-- The sign, and then the digits. Assumes nothing.
use Prim.Native.Nat.{◌≤◌}
use Rattle.octets.proofs.Chain.{length-splice}
use Rattle.octets.specs.Ascii.{ascii}
use Rattle.showing.proofs.LocatedLaws.{put-above, put-below, ten-digits}
use Rattle.showing.proofs.located.put_signed.Goals as goal
use Rattle.std.proofs.lemmas.Int.{to_z-of_z}
use lib.IntN.{nat_abs}
use lib.ListN.{length}
use mathlib.Core.Path.{◌≡◌, ap, ◌∙◌}
use mir.Syntax.{w32}
use native.Mathlib.Omega.{arith}

pub put_decimal-requires : goal.put_decimal-requires
put_decimal-requires c =
    let n = c.from-n.result in
    let small : n ≤ 2147483648 = omega (arith, c.from-n.ensures, c.unsigned_abs.ensures.bound) in
    let l : length c.put-digits.new.out ≡ length c.args.out.now = ap length c.put-digits.ensures.1
    ∙ length-splice c.args.out.now c.args.at (ascii "-") (omega (arith, c.requires)) in
    omega (arith, c.requires, c.put-digits.ensures.0, ten-digits n small)

pub put_decimal-requires-else-z-lt0 : goal.put_decimal-requires-else-z-lt0
put_decimal-requires-else-z-lt0 c =
    let n = c.from-n.result in
    let small : n ≤ 2147483648 = omega (arith, c.from-n.ensures, c.unsigned_abs.ensures.bound) in
    omega (arith, c.requires, ten-digits n small)

pub returns-then-z-lt0 : goal.returns-then-z-lt0
returns-then-z-lt0 c =
    let z = c.args.z in
    let q = to_z-of_z w32 z c.ranges.z in
    let n = c.from-n.result in
    let small : n ≤ 2147483648 = omega (arith, c.from-n.ensures, c.unsigned_abs.ensures.bound) in
    put-below c.args.out.now c.args.at z (c.from-n.ensures ∙ c.unsigned_abs.ensures.value ∙ ap nat_abs q) small c.requires (rw q at c.if-z-lt0.true) c.put-digits.ensures
    c.put_decimal.ensures

pub returns-else-z-lt0 : goal.returns-else-z-lt0
returns-else-z-lt0 c =
    let z = c.args.z in
    let q = to_z-of_z w32 z c.ranges.z in
    let n = c.from-n.result in
    let small : n ≤ 2147483648 = omega (arith, c.from-n.ensures, c.unsigned_abs.ensures.bound) in
    put-above c.args.out.now c.args.at z (c.from-n.ensures ∙ c.unsigned_abs.ensures.value ∙ ap nat_abs q) small (rw q at c.if-z-lt0.false) c.put_decimal-else-z-lt0.ensures
