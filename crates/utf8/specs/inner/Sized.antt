-- A char's count of octets as the code answers it: what the contracts of `src/sequences.rt` cite. Inner: what `check` promises does not speak of it.
-- Assumes nothing.
use Rattle.std.specs.Prelude.{ℕ, zero, suc, Option, Some, None}

-- so many octets; none where no char stands
abbrev pub sized : ℕ → Option ℕ
sized zero = None
sized (suc k) = Some (suc k)
