-- The puts make a chain. Assumes nothing.
use Rattle.lines.proofs.answering.put_refused.Goals as goal
use Rattle.octets.proofs.Chain.{more, start}
use Rattle.octets.proofs.DecimalLaws.{shown-length}
use Rattle.octets.specs.Ascii.{ascii}
use Rattle.octets.specs.Decimal.{shown}
use Rattle.octets.specs.Splice.{written}
use lib.ListN.{length}
use mathlib.Core.List.{[], ◌∷◌, ◌++◌}
use mathlib.Core.Path.{◌≡◌, refl, ap, ◌∙◌}
use native.Mathlib.Omega.{arith}

pub put_decimal-behind_number-requires : goal.put_decimal-behind_number-requires
put_decimal-behind_number-requires c = omega (arith, shown-length c.args.number (omega arith))

pub put-requires : goal.put-requires
put-requires c = omega (arith, shown-length c.args.number (omega arith))

pub returns : goal.returns
returns c =
    let x = c.args in
    let w = more (10 ∷ []) (more (shown x.number) (more (ascii " refused ") (start x.out.now) c.put-before_number.ensures)
    c.put_decimal-behind_number.ensures) c.put.ensures in
    let e : ((([] ++ ascii " refused ") ++ shown x.number) ++ (10 ∷ [])) ≡ 32 ∷ ((ascii "refused " ++ shown x.number) ++ (10 ∷ [])) = refl in
    (w.place ∙ ap length e, w.is ∙ ap (written x.out.now) e, omega (arith, shown-length x.number (omega arith)))
