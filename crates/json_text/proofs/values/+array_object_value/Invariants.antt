-- The cycle of readers. A call falls by levels left and bytes left (01, 'Where each language form belongs'), with one more behind a bracket; a loop by
-- the bytes left. Each loop keeps that the machine, with the room left, answers where it stands as from the start, whatever stands around; each exit
-- follows its bytes, and each of `value` is one law. Assumes nothing.
use mathlib.Core.Path.{◌≡◌}
use Prim.Native.Nat.{◌+◌, ◌-◌, ◌≤◌}
use lib.ListN.{length}
use Rattle.json_text.specs.inner.Machine.{Stack, arr, obj, value as val, first, name, name₁, levels}
use Rattle.json_text.specs.inner.Tour.{tour}
use Rattle.json_text.proofs.values.+array_object_value.Given as goal

-- Arguments: the text, the place and the levels left. A bracket takes a level and a byte; behind it a value may begin at once.
abbrev pub decreases-array : goal.decreases-array
decreases-array l = l.left + (length l.s.now - l.at) + 1

abbrev pub decreases-object : goal.decreases-object
decreases-object l = l.left + (length l.s.now - l.at) + 1

abbrev pub decreases-value : goal.decreases-value
decreases-value l = l.left + (length l.s.now - l.at)

abbrev pub invariant-array-loop-e : goal.invariant-array-loop-e
invariant-array-loop-e l = (l.at ≤ l.p) × (l.p ≤ length l.s) × ((k : Stack) → levels (arr k) ≡ l.left → tour l.s l.at first (arr k) l.room ≡ tour l.s l.p val (arr k) l.n)

abbrev pub decreases-array-loop-e : goal.decreases-array-loop-e
decreases-array-loop-e l = length l.s - l.p

abbrev pub invariant-object-loop-a : goal.invariant-object-loop-a
invariant-object-loop-a l = (l.at ≤ l.p) × (l.p ≤ length l.s) × ((k : Stack) → levels (obj k) ≡ l.left → tour l.s l.at name₁ (obj k) l.room ≡ tour l.s l.p name (obj k) l.n)

abbrev pub decreases-object-loop-a : goal.decreases-object-loop-a
decreases-object-loop-a l = length l.s - l.p
