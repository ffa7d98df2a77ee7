-- `writing::paths::Path::is_kept` meets its contract. Assumes nothing.
use Rattle.writing.proofs.paths.Path.is_kept.Goals as goal
use Rattle.writing.specs.Adding.{path_rule}
use Rattle.std.proofs.Common.{arith}

pub returns-then-is_destination : goal.returns-then-is_destination
unfolding path_rule
returns-then-is_destination c = grind arith

pub returns-else-is_destination : goal.returns-else-is_destination
unfolding path_rule
returns-else-is_destination c = grind arith
