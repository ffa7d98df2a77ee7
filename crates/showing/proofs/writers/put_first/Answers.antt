-- The puts make a chain. Assumes nothing.
use Rattle.octets.proofs.Chain.{more, start}
use Rattle.octets.proofs.DecimalLaws.{shown-length}
use Rattle.octets.specs.Decimal.{shown}
use Rattle.showing.proofs.writers.put_first.Goals as goal
use lib.ListN.{length-append}
use mathlib.Core.List.{[], ◌++◌, ◌∷◌}
use native.Mathlib.Omega.{arith}

pub returns : goal.returns
returns c =
    let x = c.args in
    let w = more (shown x.n ++ (32 ∷ [])) (more x.word.now (start x.out.now) c.put-p.ensures)
    c.put_number.ensures in (
      (w.place, w.is),
      omega (
        arith,
        c.put-p.ensures.0,
        c.put_number.ensures.0,
        length-append (shown x.n) (32 ∷ []),
        shown-length x.n (omega arith),
      ),
    )
