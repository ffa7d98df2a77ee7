-- One row of the table for each way out. Assumes nothing.
use Rattle.escapes.proofs.EncodingLaws.{length-one, length_two, length_three, length-four}
use Rattle.escapes.proofs.measuring.width.Goals as goal
use mathlib.Core.Path.{sym}
use native.Mathlib.Omega.{arith}

pub returns-then-c-lt128 : goal.returns-then-c-lt128
returns-then-c-lt128 c = sym (length-one _ (omega arith))

pub returns-then-c-lt2048 : goal.returns-then-c-lt2048
returns-then-c-lt2048 c = sym (length_two _ (omega arith) (omega arith))

pub returns-then-c-lt65536 : goal.returns-then-c-lt65536
returns-then-c-lt65536 c = sym (length_three _ (omega arith) (omega arith))

pub returns : goal.returns
returns c = sym (length-four _ (omega arith))
