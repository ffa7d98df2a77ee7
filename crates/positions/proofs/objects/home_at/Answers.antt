-- `positions::objects::home_at` meets its contract: the numbers of the type's names. Assumes nothing.
use Rattle.positions.proofs.ObjectLaws.{a-home, no-home}
use Rattle.positions.proofs.objects.home_at.Goals as goal
use Rattle.std.proofs.lemmas.Int.{to_z-of_z}
use borrow.Author.Rules.{rules}
use mathlib.Core.Path.{sym, ◌∙◌}
use mir.Syntax.{w32}
use mir.Val.{SFits}

pub returns-then-byte-eq123 : goal.returns-then-byte-eq123
returns-then-byte-eq123 c =
    let f : SFits w32 c.millionths.result = search rules in
    let g : SFits w32 c.millionths-then-byte-eq123.result = search rules in
    a-home c.args.v.now c.args.o (sym c.byte.ensures ∙ c.if-byte-eq123.true) c.values_at-at.ensures
    (to_z-of_z w32 c.millionths.result f ∙ rw c.value.ensures at c.millionths.ensures)
    (to_z-of_z w32 c.millionths-then-byte-eq123.result g ∙ rw c.value-then-byte-eq123.ensures at c.millionths-then-byte-eq123.ensures)

pub returns-else-byte-eq123 : goal.returns-else-byte-eq123
returns-else-byte-eq123 c = no-home c.args.v.now c.args.o (λ e. c.if-byte-eq123.false (c.byte.ensures ∙ e))
