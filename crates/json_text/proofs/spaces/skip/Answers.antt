use Rattle.json_text.proofs.PlaceLaws.{past_over, past_stop, past_end}
use Rattle.json_text.proofs.spaces.skip.Goals as goal
use borrow.Author.Rules.{rules}
use lib.ListN.{length}
use mathlib.Core.Logic.{⊎_elim}
use mathlib.Core.Path.{◌≡◌, sym, ◌∙◌}
use Prim.Native.Nat.{◌<◌}
use native.Mathlib.Nat.{eq-or-lt_of_le}
use native.Mathlib.Omega.{arith}

pub returns-then-s-a : goal.returns-then-s-a
returns-then-s-a c = record { is = sym (past_end _ _ (omega arith)); low = omega arith; inner = λ h. h }

pub returns : goal.returns
returns c =
    let p = c.past.ensures in
    let s = c.args.s.now in
    record {
      is =
          sym (past_over s c.args.a c.past.result p.within.0 p.within.1 (λ k g h. let q = p.passed k g h in search rules)
          ∙ ⊎_elim (λ (e : c.past.result ≡ length s). past_end s c.past.result (omega arith))
          (λ (h : c.past.result < length s). past_stop s c.past.result h (let q = p.stopped h in search rules)) (eq-or-lt_of_le p.within.1));
      low = p.within.0;
      inner = λ h. p.within.1;
    }
