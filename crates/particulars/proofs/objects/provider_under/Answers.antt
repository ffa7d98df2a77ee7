-- `particulars::objects::provider_under` meets its contract, by its definition. Assumes nothing.
use Prim.Native.Nat.{ℕ}
use Rattle.particulars.proofs.objects.provider_under.Goals as goal
use Rattle.particulars.specs.Faults.{provider_under}
use Rattle.values.proofs.SpellingLaws.{own-bytes}
use Rattle.values.specs.inner.Asked.{Own}
use borrow.Author.Tests.{ne_eqb}
use mathlib.Core.List.{List}
use mathlib.Core.Path.{subst, sym}

pub returns-then-v-eq0 : goal.returns-then-v-eq0
unfolding provider_under
returns-then-v-eq0 c = rw c.if-v-eq0.true

pub provider_of-requires : goal.provider_of-requires
provider_of-requires c = subst (λ (l : List ℕ). Own l) (sym c.value_at.ensures) (own-bytes c.args.s.now c.args.v)

pub returns : goal.returns
unfolding provider_under
returns c = rw (ne_eqb c.args.v 0 c.if-v-eq0.false, c.provider_of.ensures, c.value_at.ensures)
