-- What a run of the program hands to `write` is the text of what it read, whatever the system's reads give. Assumes nothing.
use Prim.Native.Nat.{ℕ}
use Rattle.keep.proofs.WorkLaws.{line_kept}
use Rattle.keep.specs.Log.{line_done}
use Rattle.lines.proofs.WholeRun.{so_far, whole_run}
use Rattle.lines.specs.Input.{ended_lines, last_line, lines_of}
use Rattle.lines.specs.Log.{log_text}
use Rattle.lines.specs.inner.Running.{Turns}
use Rattle.table.specs.Blank.{blank_of}
use mathlib.Core.List.{List, [], ◌++◌}
use mathlib.Core.Path.{◌≡◌}
use native.Mathlib.Omega.{arith}

-- at the end of the input: what was handed on turn by turn, and then the answer to a last line without its line feed, is the text of the
-- whole log
pub whole_log : {input handed t k : List ℕ} → Turns line_done 32790 (blank_of 255) input handed t k []
    → log_text line_done (blank_of 255) (lines_of input) ≡ handed ++ log_text line_done t (last_line k)
whole_log r = whole_run line_done 32790 (omega arith) (line_kept 32790 (omega arith)) r

-- before it, and where a call fails: what was handed on is the beginning of the text of the lines that have ended
pub log_so_far : {input handed t k s : List ℕ} → Turns line_done 32790 (blank_of 255) input handed t k s
    → log_text line_done (blank_of 255) (ended_lines [] input) ≡ handed ++ log_text line_done t (ended_lines k s)
log_so_far r = (so_far line_done 32790 (omega arith) (line_kept 32790 (omega arith)) r).written
