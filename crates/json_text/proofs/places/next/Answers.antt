-- By the test of its branch. Assumes nothing.
use Rattle.json_text.proofs.PlaceLaws as laws
use Rattle.json_text.proofs.places.next.Goals as goal
use mathlib.Core.Path.{sym}
use native.Mathlib.Omega.{arith}

pub returns-then-p-s : goal.returns-then-p-s
returns-then-p-s c = record { is = sym (laws.next-is c.args.s.now c.args.p c.if-p-s.true); low = omega arith; inner = λ h. omega arith }

pub returns-else-p-s : goal.returns-else-p-s
returns-else-p-s c = record { is = sym (laws.next-end c.args.s.now c.args.p c.if-p-s.false); low = omega arith; inner = λ h. h }
