-- `values::values::spelling_at` meets its contract. By its definition and what the callees ensure. Assumes nothing.
use Prim.Native.Nat.{ℕ}
use Rattle.values.proofs.SpellingLaws.{own-bytes}
use Rattle.values.proofs.values.spelling_at.Goals as goal
use Rattle.values.specs.Spans.{spelling_at}
use Rattle.values.specs.Value.{spelling_of}
use Rattle.values.specs.inner.Asked.{Own}
use mathlib.Core.List.{List}
use mathlib.Core.Path.{sym, ap, subst, ◌∙◌}

pub own_spelling-requires : goal.own_spelling-requires
own_spelling-requires c = let x = c.args in subst (λ (l : List ℕ). Own l) (sym c.value_at.ensures) (own-bytes x.s.now x.v)

pub returns : goal.returns
unfolding spelling_at
returns c = c.own_spelling.ensures ∙ ap spelling_of c.value_at.ensures
