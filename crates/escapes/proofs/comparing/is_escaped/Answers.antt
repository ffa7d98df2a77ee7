-- What the search finds decides. Assumes nothing.
use Rattle.escapes.proofs.PlainLaws.{found}
use Rattle.escapes.proofs.comparing.is_escaped.Goals as goal
use Rattle.octets.specs.Text.{before}
use mathlib.Core.Path.{◌≡◌}
use native.Mathlib.Omega.{arith}

pub returns : goal.returns
returns c =
    let s = c.args.s.now in
    let e : c.find.result ≡ before 92 s = omega (arith, c.find.ensures) in
    rw e (found s)
