-- `table::numbers::word_at` meets its contract. Four bytes hold a number below 2 to the 32. Assumes nothing.
use Rattle.table.proofs.SoundLaws.{word-below}
use Rattle.table.proofs.numbers.word_at.Goals as goal
use native.Mathlib.Omega.{arith}

pub overflow_cast-result : goal.overflow_cast-result
overflow_cast-result c = let h = word-below c.args.s.now c.args.at c.requires (λ i. omega (arith, c.type_inv.s i)) in rw c.number_at.ensures (omega arith)
