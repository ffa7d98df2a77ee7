use Rattle.json_text.proofs.PlaceLaws.{plain_over, plain-stops, plain-ends}
use Rattle.json_text.proofs.places.plain_end.Goals as goal
use borrow.Author.Rules.{rules}
use lib.ListN.{length}
use mathlib.Core.Logic.{⊎_elim}
use mathlib.Core.Path.{◌≡◌, sym, ◌∙◌}
use Prim.Native.Nat.{◌<◌}
use native.Mathlib.Nat.{eq-or-lt_of_le}
use native.Mathlib.Omega.{arith}

pub returns : goal.returns
returns c =
    let p = c.past.ensures in
    let s = c.args.s.now in (
      sym (plain_over s c.args.a c.past.result p.within.0 p.within.1 (λ k g h. let q = p.passed k g h in search rules)
          ∙ ⊎_elim (λ (e : c.past.result ≡ length s). plain-ends s c.past.result (omega arith))
          (λ (h : c.past.result < length s). plain-stops s c.past.result h (let q = p.stopped h in search rules)) (eq-or-lt_of_le p.within.1)),
      p.within.0,
      p.within.1,
    )
