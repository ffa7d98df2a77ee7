-- Where both parts fit, the two puts are one. Assumes nothing.
use Prim.Native.Nat.{◌+◌, ◌≤◌}
use Rattle.lines.proofs.WritingLaws.{not-wrote, wrote}
use Rattle.lines.proofs.answering.write_two.Goals as goal
use Rattle.std.proofs.Common.{Ok}
use Rattle.octets.proofs.Chain.{splice-two}
use lib.ListN.{length, length-append}
use mathlib.Core.List.{◌++◌}
use mathlib.Core.Path.{ap, ◌∙◌}
use native.Mathlib.Omega.{arith}

pub returns-then-out-at : goal.returns-then-out-at
returns-then-out-at c =
    let x = c.args in
    not-wrote x.out.now x.at (x.a.now ++ x.b.now) (rw length-append (omega arith))

pub returns-then-out-behind : goal.returns-then-out-behind
returns-then-out-behind c =
    let x = c.args in
    not-wrote x.out.now x.at (x.a.now ++ x.b.now) (rw length-append (omega arith))

pub returns : goal.returns
returns c =
    let x = c.args in
    let f : x.at + length (x.a.now ++ x.b.now) ≤ length x.out.now = rw length-append (omega arith) in
    let w = wrote x.out.now x.at (x.a.now ++ x.b.now) f in (
      ap Ok (c.put-2.ensures.0 ∙ rw length-append (omega arith)) ∙ w.0,
      c.put-2.ensures.1
          ∙ rw c.put.ensures.1 (splice-two x.out.now x.at x.a.now x.b.now (omega arith)) ∙ w.1,
    )
