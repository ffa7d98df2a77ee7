-- A verdict on UTF-8 as one number: what the contract of `src/lib.rt` cites. Assumes nothing.
use Rattle.std.specs.Prelude.{ℕ, Ok, Err}
use Rattle.utf8.specs.Rfc3629.{Verdict}

-- how many of so many bytes are good: all, or those before the first bad sequence
abbrev pub good_bytes : Verdict → ℕ → ℕ
good_bytes (Ok _) n = n
good_bytes (Err p) n = p
