-- `names::field` meets its contract: a guess that is no name leaves no other. Assumes nothing.
use Prim.Native.Nat.{◌%◌, ◌*◌, ◌+◌}
use Rattle.rules.proofs.NameLaws.{guess-is, guess_small, is_name, no_name}
use Rattle.rules.proofs.names.field.Goals as goal
use lib.ListN.{length}
use mathlib.Core.Path.{◌∙◌, sym}
use native.Mathlib.Omega.{arith}

pub is_field-requires : goal.is_field-requires
is_field-requires c = guess_small (length c.args.s.now % 16 * 5 + c.byte-first.result * 5 + c.byte-last.result * 3)

pub returns-then-is_field : goal.returns-then-is_field
returns-then-is_field c =
    let x = c.args.s.now in (
      is_name x _ (guess_small (length c.args.s.now % 16 * 5 + c.byte-first.result * 5 + c.byte-last.result * 3))
          (sym c.is_field.ensures ∙ c.if-is_field.true),
      guess_small (length c.args.s.now % 16 * 5 + c.byte-first.result * 5 + c.byte-last.result * 3),
    )

pub returns-else-is_field : goal.returns-else-is_field
returns-else-is_field c =
    let x = c.args.s.now in (
      no_name x _ (guess-is x _ _ _ c.byte-first.ensures c.saturating_sub.ensures c.byte-last.ensures)
          (sym c.is_field.ensures ∙ c.if-is_field.false),
      omega arith,
    )
