-- `fields::hops::shut_at` meets its contract. Each exit says what was tested before it. Assumes nothing.
use Rattle.fields.proofs.hops.shut_at.Goals as goal
use Rattle.octets.proofs.TextLaws.{there}
use mathlib.Core.Path.{refl, sym, ◌∙◌}
use native.Mathlib.Omega.{arith}

pub overflow_add-result : goal.overflow_add-result
overflow_add-result c = omega (
  arith,
  there c.args.v.now c.args.p 124
      (sym c.byte.ensures ∙ c.if-byte-ne125.false),
)

pub returns : goal.returns
returns c = (c.if-not-known.false, (sym c.byte.ensures ∙ c.if-byte-ne125.false, refl))
