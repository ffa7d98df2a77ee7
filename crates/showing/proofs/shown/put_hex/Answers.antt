-- `-`, or the digits into the rest of the buffer from `at` on. Assumes nothing.
use Rattle.hex_text.proofs.HexLaws.{length-encoded}
use Rattle.hex_text.specs.Digits.{encoded}
use Rattle.showing.proofs.ShownLaws.{behind, hex-none, hex-some}
use Rattle.showing.proofs.shown.put_hex.Goals as goal
use native.Mathlib.Omega.{arith}

pub returns-then-s-eq0 : goal.returns-then-s-eq0
returns-then-s-eq0 c =
    rw (← hex-none c.args.s.now c.if-s-eq0.true) c.put.ensures

pub returns : goal.returns
returns c =
    let x = c.args in
    let e = c.encode.ensures in
    rw (← hex-some x.s.now c.if-s-eq0.false) (omega (arith, e.0, length-encoded x.s.now), behind x.out.now x.at (encoded x.s.now) e.1)
