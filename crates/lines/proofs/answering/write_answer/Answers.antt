-- The text is what the short buffer holds at its front. Assumes nothing.
use Prim.Native.Nat.{ℕ}
use Rattle.lines.proofs.WritingLaws.{front-written}
use Rattle.lines.proofs.answering.write_answer.Goals as goal
use Rattle.lines.specs.Program.{answer_line, answer_text}
use lib.ListN.{length-append}
use mathlib.Core.List.{List, [], ◌∷◌, ◌++◌}
use native.Mathlib.Omega.{arith}

pub returns : goal.returns
unfolding answer_line
returns c =
    let x = c.args in
    let t = c.put_text-n.ensures in
    let text : List ℕ = 32 ∷ (answer_text x.a ++ (10 ∷ [])) in
    let w = rw (front-written _ text t.1 t.0) at c.write_behind.ensures in
    (w.0, w.1, rw (length-append x.time.now text) (omega (arith, t.0, t.2)))
