-- Inner: what the functions of `src/` know of numbers that were read from bytes. Tied to the outer definitions by the contract of `call_of`, which the
-- types of `table`'s Fields meet. Assumes nothing.
use Rattle.std.specs.Prelude.{◌<◌}
use Rattle.table.specs.declared.numbers.Fields.{Fields}

-- numbers fit the bytes that a record has for them, as those read from bytes do; in a sound record the INVITE number and the other times
-- are below these
pub record Fitting (f : Fields) : Type 0 where
  pub caller : f.caller < 4294967296
  pub callee : f.callee < 4294967296
  pub last : f.last < 18446744073709551616
