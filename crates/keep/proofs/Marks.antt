-- Lines of a log on any table, computed from the definition (01 Writing, the last paragraph). Assumes nothing.
use Prim.Native.Nat.{ℕ}
use Rattle.keep.specs.Log.{line_done, step_done}
use Rattle.keeper.specs.Keeping.{on_tick}
use Rattle.lines.specs.Program.{answer_line, bad_line, line_of, said, said_by, answer_text, timed}
use Rattle.octets.specs.Ascii.{ascii}
use Rattle.octets.specs.Class.{all, among, is_digit}
use Rattle.octets.specs.Decimal.{decimal_in, is_decimal, shown, shown_in, tens}
use Rattle.octets.specs.Text.{before, same, stands_at}
use lib.ListN.{replicate}
use mathlib.Core.List.{List, ◌++◌}
use mathlib.Core.Path.{◌≡◌, refl}

module _ (t : List ℕ) where
  -- over 32,768 bytes after the time's space: refused 2, and the table as it was
  pub over-long : line_done t (ascii "007 " ++ replicate 32769 120) ≡ record { text = ascii "007 refused 2\n"; held = t }
  unfolding line_done said said_by line_of timed before same decimal_in is_decimal tens all is_digit among answer_line answer_text shown shown_in
  over-long = refl

  -- a tick is for the Call-ID behind `tick `, to its last byte
  pub a-tick : line_done t (ascii "1000 tick A1.nx") ≡ step_done (ascii "1000") (on_tick t 1000 (ascii "A1.nx"))
  unfolding line_done said said_by line_of timed before same stands_at decimal_in is_decimal tens all is_digit among
  a-tick = refl

  -- no time: `bad`
  pub no-time : line_done t (ascii "tick A1.nx") ≡ record { text = ascii "bad\n"; held = t }
  unfolding line_done said said_by line_of timed before decimal_in is_decimal tens all is_digit among bad_line
  no-time = refl
