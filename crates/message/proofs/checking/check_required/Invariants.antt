-- `message::checking::check_required` meets its contract. The loop keeps that the lowest is among the numbers left. Assumes nothing.
use Rattle.message.specs.inner.Facts.{by_tag}
use Prim.Native.Nat.{◌-◌}
use Rattle.message.proofs.checking.check_required.Given as goal
use Rattle.message.specs.Checks.{lacks, lowest}
use mathlib.Core.Path.{◌≡◌}

abbrev pub invariant-loop-n : goal.invariant-loop-n
invariant-loop-n l = lowest (lacks (by_tag l.run) l.k l.at) 1 26 ≡ lowest (lacks (by_tag l.run) l.k l.at) l.n (27 - l.n)
