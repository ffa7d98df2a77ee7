-- What one letter adds to a measure: `added-first`, `added_more` and `added_none` of proofs/MeasureLaws.antt say that all of them together give `measure_of`. Assumes nothing.
use Rattle.std.specs.Prelude.{ℕ, ◌+◌, length, Bool, not, ◌||◌, List}
use Rattle.escapes.specs.declared.measuring.Measured.{Measured}
use Rattle.octets.specs.Class.{all}
use Rattle.rules.specs.Texts.{no_break, points}

-- the measure m with the octets w, and whether they are of a lone surrogate
unfoldable pub added : Measured → List ℕ → Bool → Measured
added m w lone =
    record { length = m.length + length w; points = m.points + points w; broken = m.broken || lone; breaks = m.breaks || not (all no_break w) }
