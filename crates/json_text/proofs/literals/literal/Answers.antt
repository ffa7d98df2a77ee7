use Rattle.json_text.proofs.LeafLaws.{word-hit, word-miss, word-short, word-done}
use Rattle.json_text.proofs.literals.literal.Goals as goal
use Rattle.json_text.specs.inner.Machine.{due, from, after}
use lib.ListN.{drop, length}
use Prim.Native.Nat.{ℕ, ◌+◌}
use mathlib.Core.Path.{◌≡◌, ap, ◌∙◌}
use native.Mathlib.Omega.{arith}

pub returns-then-s-i : goal.returns-then-s-i
returns-then-s-i c =
    record {
      low = omega arith;
      high = c.loop-j.invariant.0;
      same = λ _ k. c.loop-j.invariant.1 k ∙ word-short _ c.args.w.now _ c.loop-j.j k (omega arith) c.loop-j.invariant.0 (omega arith);
    }

pub returns-then-s-i-2 : goal.returns-then-s-i-2
returns-then-s-i-2 c =
    record {
      low = omega arith;
      high = c.loop-j.invariant.0;
      same = λ _ k. c.loop-j.invariant.1 k ∙ word-miss _ c.args.w.now _ c.loop-j.j k (omega arith) (omega arith) c.if-s-i-2.true;
    }

pub loop-j-preserved : goal.loop-j-preserved
loop-j-preserved c =
    let x = c.args in
    let j = c.loop-j.j in
    let z : x.at + j + 1 ≡ x.at + (j + 1) = omega arith in (
      omega arith,
      λ k.
          c.loop-j.invariant.1 k
          ∙ word-hit x.s.now x.w.now (x.at + j) j k (omega arith) (omega arith) c.if-s-i-2.false
          ∙ ap (λ (i : ℕ). from x.s.now i (due (drop (j + 1) x.w.now)) k) z,
    )

pub returns : goal.returns
returns c =
    let x = c.args in
    let j = c.loop-j.j in
    let z : x.at + j ≡ x.at + length x.w.now = omega arith in
    record {
      low = omega arith;
      high = omega arith;
      same = λ _ k.
          c.loop-j.invariant.1 k
          ∙ word-done x.s.now x.w.now (x.at + j) j k (omega arith) (omega arith)
          ∙ ap (λ (i : ℕ). from x.s.now i after k) z;
    }
