-- Lines of the probe on any held table and ceiling, computed from the definition. Assumes nothing.
use Prim.Native.Nat.{ℕ}
use Rattle.hex_text.specs.Digits.{decoded, is_hex, is_lower_hex, worth_of}
use Rattle.keeper.specs.Keeping.{on_message, on_tick}
use Rattle.octets.specs.Ascii.{ascii}
use Rattle.octets.specs.Class.{all, among, is_digit}
use Rattle.octets.specs.Decimal.{tens}
use Rattle.octets.specs.Text.{before, same}
use Rattle.probe.specs.Commands.{command_done, line_done, plain_done}
use Rattle.probe.specs.Ceiling.{ceiling_after, ceiling_text}
use Rattle.probe.specs.Effect.{holding, keeping}
use Rattle.probe.specs.Events.{event_done, event_on, step_done}
use Rattle.probe.specs.Tables.{blank_done, blank_made}
use Rattle.showing.specs.Words.{hex_bytes, is_hex_to, numeral}
use Rattle.table.specs.Blank.{blank_fits, blank_of}
use mathlib.Core.List.{List}
use mathlib.Core.Path.{◌≡◌, refl}

module _ (c : ℕ) (t : List ℕ) where
  -- `msg` is a message and `tick` a tick, each of the bytes that the hex stands for
  pub events :
      (line_done (holding c t) (ascii "msg 7 4131") ≡ keeping c (step_done (on_message c t 7 (ascii "A1"))))
      × (line_done (holding c t) (ascii "tick 7 4131") ≡ keeping c (step_done (on_tick t 7 (ascii "A1"))))
  unfolding line_done command_done plain_done event_done event_on same before is_hex_to is_hex is_lower_hex all among hex_bytes decoded worth_of numeral is_digit tens
  events = (refl, refl)

  -- `blank` holds a blank table, or says `no 1` and the held one stays
  pub blanks :
      (line_done (holding c t) (ascii "blank 1 176") ≡ record { text = ascii "ok\n"; held = holding c (blank_of 1) })
      × (line_done (holding c t) (ascii "blank 1 175") ≡ record { text = ascii "no 1\n"; held = holding c t })
      × (line_done (holding c t) (ascii "blank 256 40976") ≡ record { text = ascii "no 1\n"; held = holding c t })
  unfolding line_done command_done plain_done blank_done blank_made blank_fits same before among numeral all is_digit tens
  blanks = (refl, refl, refl)

  -- `ceiling` holds a number of 32 bits, and the table stays; a larger one is answered `?`, and the held one stays
  pub ceilings :
      (line_done (holding c t) (ascii "ceiling 4294967295") ≡ record { text = ascii "ok\n"; held = holding 4294967295 t })
      × (line_done (holding c t) (ascii "ceiling 4294967296") ≡ record { text = ascii "?\n"; held = holding c t })
      × (line_done (holding c t) (ascii "ceiling") ≡ record { text = ascii "?\n"; held = holding c t })
  unfolding line_done command_done ceiling_text ceiling_after same before among numeral all is_digit tens
  ceilings = (refl, refl, refl)
