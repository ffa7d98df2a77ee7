-- `message::checking::check_rules` meets its contract. The loop keeps that row 9 is what it says from here on. Assumes nothing.
use Rattle.message.proofs.checking.check_rules.Given as goal
use Rattle.message.specs.inner.Facts.{by_tag, nine_from}
use mathlib.Core.Path.{◌≡◌}

abbrev pub invariant-loop-n : goal.invariant-loop-n
invariant-loop-n l = nine_from l.s (by_tag l.run) l.k l.at 1 ≡ nine_from l.s (by_tag l.run) l.k l.at l.n
