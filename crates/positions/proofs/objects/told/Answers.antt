-- `positions::objects::told` meets its contract, by its definition. Assumes nothing.
use Prim.Native.Nat.{ℕ}
use Rattle.positions.proofs.objects.told.Goals as goal
use Rattle.positions.specs.Objects.{or_end}
use Rattle.positions.specs.inner.Told.{told}
use Rattle.std.proofs.lemmas.Int.{to_z-of_z}
use Rattle.values.proofs.SpellingLaws.{own-bytes}
use Rattle.values.specs.inner.Asked.{Own}
use borrow.Author.Rules.{rules}
use mathlib.Core.List.{List}
use mathlib.Core.Path.{subst, sym}
use mir.Syntax.{w32}
use mir.Val.{SFits}

pub provider_of-requires : goal.provider_of-requires
provider_of-requires c = subst (λ (l : List ℕ). Own l) (sym c.value.ensures) (own-bytes c.args.v.now (or_end c.args.v.now c.args.provider))

pub returns : goal.returns
unfolding told
returns c =
    let f : SFits w32 c.millionths.result = search rules in
    let g : SFits w32 c.millionths-2.result = search rules in
    rw (
      to_z-of_z w32 c.millionths.result f,
      to_z-of_z w32 c.millionths-2.result g,
      c.provider_of.ensures,
      c.millionths.ensures,
      c.millionths-2.ensures,
      c.metres_of.ensures,
      c.value.ensures,
      c.value-2.ensures,
      c.value-3.ensures,
      c.value-4.ensures,
    )
