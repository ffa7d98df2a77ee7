-- What functions of this crate ask of their callers: a value's own bytes (`own-bytes` of proofs/SpellingLaws.antt). Assumes nothing.
use Rattle.std.specs.Prelude.{ℕ, length, List, ◌≡◌}
use Rattle.json_text.specs.Places.{behind}

-- these are the bytes of one value and no more
abbrev pub Own : List ℕ → Type 0
Own v = behind v 0 ≡ length v
