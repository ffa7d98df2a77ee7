-- `values::fire_reach` meets its contract, piece by piece. Assumes nothing.
use Prim.Native.Nat.{ℕ, ◌+◌}
use Rattle.letters.proofs.JoinLaws.{fixed-end, run_is}
use Rattle.letters.proofs.values.fire_reach.Goals as goal
use Rattle.letters.specs.inner.Reach.{common, end_reach, fixed_reach, reach_of, run_letters}
use Rattle.rules.specs.declared.classes.Class.TheVariants.{Fire, Small}
use mathlib.Core.List.{List}
use mathlib.Core.Path.{ap, ◌∙◌}
use native.Mathlib.Omega.{arith}

pub returns : goal.returns
unfolding reach_of
returns c = let x = c.args in let s = x.s.now in let w = x.w.now in
    run_is 2 15 Fire Small (fixed_reach w end_reach) (omega arith) s x.at
    (ap (λ (k : ℕ). x.at + k) (c.run_letters.ensures.0 ∙ ap (run_letters 15 Fire Small 0) c.rest.ensures.0))
    (ap (λ (k : ℕ). x.at + c.run_letters.result + k)
    (c.common.ensures.0 ∙ ap (λ (t : List ℕ). common t w) c.rest-2.ensures.0 ∙ fixed-end w _)) c.run_or.ensures
