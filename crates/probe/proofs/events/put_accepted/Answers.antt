-- There is room for the line. Assumes nothing.
use Rattle.probe.proofs.EventLaws.{accepted-ends}
use Rattle.probe.proofs.events.put_accepted.Goals as goal
use mathlib.Core.Path.{◌∙◌}
use native.Mathlib.Omega.{arith}

pub returns : goal.returns
returns c =
    let x = c.args in
    let w = c.write_answer.ensures in
    let p = accepted-ends x.out.now x.a c.write_answer.result c.put-behind.result c.put-behind.ensures (omega (arith, w.2)) (w.0, w.1) in
    (c.unwrap_or.ensures ∙ p.0, p.1)
