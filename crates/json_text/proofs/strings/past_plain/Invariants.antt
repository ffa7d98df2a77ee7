-- The loop passes plain bytes by whole runs. Assumes nothing.
use Prim.Native.Nat.{ℕ, ◌-◌, ◌≤◌}
use Rattle.json_text.proofs.strings.past_plain.Given as goal
use Rattle.json_text.specs.inner.Machine.{Stack, Mode, live, is_plain, step, from}
use lib.ListN.{length}
use mathlib.Core.Bool.{true}
use mathlib.Core.Path.{◌≡◌}

abbrev pub invariant-loop-i : goal.invariant-loop-i
invariant-loop-i l = (l.at ≤ l.i) × (l.i ≤ length l.s) × ((m : Mode) (k : Stack) → ((b : ℕ) → is_plain b ≡ true → step m k b ≡ live m k) → from l.s l.at m k ≡ from l.s l.i m k)

abbrev pub decreases-loop-i : goal.decreases-loop-i
decreases-loop-i l = length l.s - l.i
