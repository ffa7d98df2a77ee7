-- A line cut to a buffer's room does what the whole does, and what a run of the program hands to `write` is the text of what it read,
-- whatever the system's reads give. Assumes nothing.
use Prim.Native.Nat.{ℕ, ◌≤◌}
use Rattle.lines.proofs.WholeRun.{so_far, whole_run}
use Rattle.lines.specs.Input.{ended_lines, last_line, lines_of}
use Rattle.lines.specs.Log.{log_text}
use Rattle.lines.specs.inner.Running.{Turns}
use Rattle.probe.proofs.CommandLaws.{line_long}
use Rattle.message.specs.Reading.{ample}
use Rattle.probe.specs.Commands.{line_done}
use Rattle.probe.specs.Effect.{Held, holding}
use Rattle.table.specs.Blank.{blank_of}
use lib.ListN.{length, take}
use lib.Seq.{length-take-le, take_all}
use mathlib.Core.List.{List, [], ◌++◌}
use mathlib.Core.Path.{◌≡◌, ap, sym, ◌∙◌}
use native.Mathlib.Decide.{dec_le}
use native.Mathlib.Omega.{arith}

-- a line cut to 170,001 bytes or more does what the whole does
pub line_kept : (cap : ℕ) → 170001 ≤ cap → (x : Held) (l : List ℕ) → line_done x (take cap l) ≡ line_done x l
line_kept cap room x l = go (dec_le (length l) cap)
  where
    go : Dec (length l ≤ cap) → line_done x (take cap l) ≡ line_done x l
    go (yes a) = ap (line_done x) (take_all cap l a)
    go (no a) = line_long x (take cap l) (rw (length-take-le cap l (omega arith)) (omega arith)) ∙ sym (line_long x l (omega arith))

-- at the end of the input: what was handed on turn by turn, and then the answer to a last line without its line feed, is the text of the
-- whole input
pub whole-input : {input handed : List ℕ} {x : Held} {k : List ℕ} → Turns line_done 170001 (holding ample (blank_of 255)) input handed x k []
    → log_text line_done (holding ample (blank_of 255)) (lines_of input) ≡ handed ++ log_text line_done x (last_line k)
whole-input r = whole_run line_done 170001 (omega arith) (line_kept 170001 (omega arith)) r

-- before it, and where a call fails: what was handed on is the beginning of the text of the lines that have ended
pub input_so_far : {input handed : List ℕ} {x : Held} {k s : List ℕ} → Turns line_done 170001 (holding ample (blank_of 255)) input handed x k s
    → log_text line_done (holding ample (blank_of 255)) (ended_lines [] input) ≡ handed ++ log_text line_done x (ended_lines k s)
input_so_far r = (so_far line_done 170001 (omega arith) (line_kept 170001 (omega arith)) r).written
