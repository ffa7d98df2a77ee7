use Rattle.keep.proofs.LogLaws.{blank-starts}
use Rattle.keep.proofs.run.Goals as goal
use Rattle.keep.specs.Log.{line_done}
use Rattle.lines.proofs.TurnLaws.{begins, never}
use Rattle.lines.proofs.WholeRun.{further}
use Rattle.table.specs.Blank.{blank_of}
use native.Mathlib.Omega.{arith}

pub loop-s-init : goal.loop-s-init
loop-s-init c =
    let x = c.args in
    let e = c.start.ensures in
    (begins line_done 32790 (blank_of 255) x.line.now x.buf.now e, blank-starts e, omega arith, omega arith, omega arith, never)

pub turn-s-requires : goal.turn-s-requires
turn-s-requires c =
    let i = c.loop-s.invariant in
    (i.1, i.2, i.3, i.4)

pub loop-s-preserved : goal.loop-s-preserved
loop-s-preserved c =
    let t = c.turn-s.ensures in
    (further c.loop-s.invariant.0 t.0, t.1, t.2, t.3, t.4, t.5)

pub returns-else-turns-gt0 : goal.returns-else-turns-gt0
returns-else-turns-gt0 c =
    let i = c.loop-s.invariant in
    (i.0, i.1, i.2, i.5)

pub returns-after-loop-s : goal.returns-after-loop-s
returns-after-loop-s c =
    let i = c.loop-s.invariant in
    (i.0, i.1, i.2, i.5)
