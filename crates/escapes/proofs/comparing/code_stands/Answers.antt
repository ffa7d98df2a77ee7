-- The octets are put into a small buffer and compared. Assumes nothing.
use Rattle.escapes.proofs.EncodingLaws.{at-most-four}
use Rattle.escapes.proofs.SpellLaws.{code-there, code-not-there}
use Rattle.escapes.proofs.comparing.code_stands.Goals as goal
use native.Mathlib.Omega.{arith}

pub put_code-n-requires : goal.put_code-n-requires
put_code-n-requires c = (c.requires, omega (arith, at-most-four c.args.c))

pub slice_bounds-stands_at-end : goal.slice_bounds-stands_at-end
slice_bounds-stands_at-end c = omega (arith, c.w-2-1.given, c.put_code-n.ensures.0, at-most-four c.args.c)

pub returns-then-stands_at : goal.returns-then-stands_at
returns-then-stands_at c =
    let x = c.args in code-there x.s.now x.at x.c _ _ c.put_code-n.result c.put_code-n.ensures c.w-2-1.given
    c.stands_at.result c.stands_at.ensures c.if-stands_at.true

pub returns-else-stands_at : goal.returns-else-stands_at
returns-else-stands_at c =
    let x = c.args in code-not-there x.s.now x.at x.c _ _ c.put_code-n.result c.put_code-n.ensures c.w-2-1.given
    c.stands_at.result c.stands_at.ensures c.if-stands_at.false
