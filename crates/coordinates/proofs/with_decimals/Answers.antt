-- `coordinates::with_decimals` meets its contract: six decimals one after the other. Assumes nothing.
use Rattle.coordinates.proofs.CoordinateLaws.{six_behind}
use Rattle.coordinates.proofs.with_decimals.Goals as goal
use native.Mathlib.Omega.{arith}

pub returns-clause-is : goal.returns-clause-is
returns-clause-is c = λ h. omega (arith, six_behind c.args.whole c.args.f.now h)
