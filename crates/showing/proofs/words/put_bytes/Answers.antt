-- The rest of the buffer from `at` on is lent. Assumes nothing.
use Rattle.hex_text.proofs.HexLaws.{length-decoded}
use Rattle.hex_text.specs.Digits.{decoded}
use Rattle.showing.proofs.ShownLaws.{behind}
use Rattle.showing.proofs.WordLaws.{stands}
use Rattle.showing.proofs.words.put_bytes.Goals as goal
use native.Mathlib.Omega.{arith}

pub returns : goal.returns
returns c =
    let x = c.args in
    let d = c.decode.ensures in
    rw (← stands x.word.now) (omega (arith, d.0, length-decoded x.word.now), behind x.bytes.now x.at (decoded x.word.now) d.1)
