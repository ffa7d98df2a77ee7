-- A turn is a read or lines of the piece. Assumes nothing.
use Rattle.keep.proofs.turn.Goals as goal
use Rattle.keep.specs.Log.{line_done}
use Rattle.lines.proofs.TurnLaws.{never, turn-answers, turn-reads}
use mathlib.Core.Path.{◌∙◌, sym}
use native.Mathlib.Omega.{arith}

pub returns-then-from-n : goal.returns-then-from-n
returns-then-from-n c =
    let x = c.args in
    let p = c.piece.ensures in (
      turn-answers line_done 32790 x.buf.now x.s.n c.piece.result.from p.4 p.0,
      p.1,
      p.2,
      omega (arith, p.3, p.4),
      omega (arith, p.4),
      λ h. never (sym p.5 ∙ h),
      λ h. p.6,
    )

pub returns : goal.returns
returns c =
    let x = c.args in
    let f = c.fetch.ensures in (
      turn-reads line_done 32790 x.table.now x.line.now x.buf.now x.out.now x.s.len x.s.from x.s.n (omega arith) f.0 f.3,
      c.requires.0,
      omega (arith, f.0),
      omega (arith, f.1),
      f.2,
      f.5,
      λ h. absurd (omega (arith, h)),
    )
