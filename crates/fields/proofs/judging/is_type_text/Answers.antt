-- `fields::judging::is_type_text` meets its contract. Each exit puts in the tests that led there, and takes what its callee ensures. Assumes nothing.
use Rattle.fields.proofs.judging.is_type_text.Goals as goal
use Rattle.fields.specs.inner.Chain.{on_type}
use Rattle.rules.proofs.NameLaws.{some_number}
use Rattle.rules.specs.Words.{notify_types}
use Rattle.values.specs.Value.{one_of}
use borrow.Author.Tests.{ne_eqb}
use lib.Dec.{ltb}
use mathlib.Core.Path.{ap, ◌∙◌}
use native.Mathlib.Omega.{arith}

pub returns-else-method-eq-MESSAGE : goal.returns-else-method-eq-MESSAGE
unfolding on_type one_of
returns-else-method-eq-MESSAGE c = rw (ne_eqb _ _ c.if-method-eq-MESSAGE.false)
    (ap (ltb 0) c.notify_type.ensures ∙ some_number notify_types 4 1 _ (omega arith) (omega arith))
