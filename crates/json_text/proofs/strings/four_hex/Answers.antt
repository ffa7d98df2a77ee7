use Rattle.json_text.proofs.LeafLaws.{hex-hit, hex-miss, hex-short, hex-done}
use Rattle.json_text.proofs.strings.four_hex.Goals as goal
use Rattle.json_text.specs.inner.Machine.{hexes, from, str}
use Prim.Native.Nat.{ℕ, ◌+◌, ◌-◌}
use mathlib.Core.Path.{◌≡◌, sym, ap, ◌∙◌}
use native.Mathlib.Omega.{arith}

pub returns-then-s-i : goal.returns-then-s-i
returns-then-s-i c =
    record {
      low = omega arith;
      high = c.loop-n.invariant.0;
      same = λ w k. c.loop-n.invariant.1 w k ∙ hex-short _ _ _ w k (omega arith) c.loop-n.invariant.0 (omega arith);
    }

pub returns-then-not-is_hex_digit : goal.returns-then-not-is_hex_digit
returns-then-not-is_hex_digit c =
    record {
      low = omega arith;
      high = c.loop-n.invariant.0;
      same = λ w k.
          c.loop-n.invariant.1 w k
          ∙ hex-miss _ _ _ w k (omega arith) (omega arith) (sym c.is_hex_digit.ensures ∙ c.if-not-is_hex_digit.true);
    }

pub loop-n-preserved : goal.loop-n-preserved
loop-n-preserved c =
    let x = c.args in
    let n = c.loop-n.n in
    let z : x.at + n + 1 ≡ x.at + (n + 1) = omega arith in
    let y : 4 - n - 1 ≡ 4 - (n + 1) = omega arith in (
      omega arith,
      λ w k.
          c.loop-n.invariant.1 w k
          ∙ hex-hit x.s.now (x.at + n) (4 - n) w k (omega arith) (omega arith) (sym c.is_hex_digit.ensures ∙ c.if-not-is_hex_digit.false)
          ∙ ap (λ (i : ℕ). from x.s.now i (hexes w (4 - n - 1)) k) z
          ∙ ap (λ (i : ℕ). from x.s.now (x.at + (n + 1)) (hexes w i) k) y,
    )

pub returns : goal.returns
returns c =
    let x = c.args in
    let n = c.loop-n.n in
    let z : x.at + n ≡ x.at + 4 = omega arith in
    record {
      low = omega arith;
      high = omega arith;
      same = λ w k.
          c.loop-n.invariant.1 w k
          ∙ hex-done x.s.now (x.at + n) (4 - n) w k (omega arith)
          ∙ ap (λ (i : ℕ). from x.s.now i (str w) k) z;
    }
