-- `ceiling N`: what it shows, and the ceiling that is held after it (02 §9). Cited by the contract of `src/ceilings.rt`. Assumes nothing.
use Rattle.std.specs.Prelude.{ℕ, cond, List, Option, is_some, unwrap_or}
use Rattle.octets.specs.Ascii.{ascii}
use Rattle.showing.specs.Shown.{unknown}
use Rattle.showing.specs.Words.{number_to}

-- a number of 32 bits
abbrev pub ceiling_in : List ℕ → Option ℕ
ceiling_in w = number_to 4294967295 w

unfoldable pub ceiling_text : List ℕ → List ℕ
ceiling_text w = cond (is_some (ceiling_in w)) (ascii "ok\n") unknown

-- any other word leaves the ceiling
unfoldable pub ceiling_after : ℕ → List ℕ → ℕ
ceiling_after c w = unwrap_or (ceiling_in w) c
