-- A turn is a read or a line of the piece. Assumes nothing.
use Prim.Native.Nat.{◌-◌}
use Rattle.lines.proofs.TurnLaws.{never, turn-answers, turn-reads}
use Rattle.probe.proofs.turn.Goals as goal
use Rattle.probe.specs.Commands.{line_done}
use Rattle.probe.specs.Effect.{holding}
use lib.ListN.{length, take}
use lib.Seq.{length-take-le}
use mathlib.Core.Path.{◌∙◌, ◌≡◌, sym}
use native.Mathlib.Omega.{arith}

pub returns-then-from-n : goal.returns-then-from-n
returns-then-from-n c =
    let x = c.args in
    let z : x.s.n - 0 ≡ x.s.n = omega arith in
    let l : length (take x.s.n x.buf.now) ≡ x.s.n = length-take-le x.s.n x.buf.now (omega arith) in
    let p = rw (z, l) at c.piece.ensures in (
      turn-answers line_done 170001 x.buf.now x.s.n c.piece.result.from p.4 p.0,
      p.1,
      p.2,
      omega (arith, p.3, p.4),
      omega (arith, p.4),
      λ h. never (sym p.5 ∙ h),
      λ h. p.6,
    )

pub returns : goal.returns
returns c =
    let x = c.args in
    let f = c.fetch.ensures in
    let h = holding x.s.ceiling (take x.s.size x.held.now) in (
      rw (f.0, f.1) (turn-reads line_done 170001 h x.line.now x.buf.now x.out.now x.s.len x.s.from x.s.n (omega arith) f.2 f.5),
      omega (arith, f.0),
      omega (arith, f.2),
      omega (arith, f.3),
      f.4,
      f.7,
      λ h. absurd (omega (arith, h)),
    )
