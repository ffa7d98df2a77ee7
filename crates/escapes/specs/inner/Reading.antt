-- A number of Rfc7159.antt as the code answers it: its first number that stands for none is no number here. Assumes nothing.
use Rattle.std.specs.Prelude.{ℕ, ◌≡◌, ◌≤◌, ◌<◌, Option, None, Some}

-- n, or none where it is m or more
abbrev pub Below : ℕ → Option ℕ → ℕ → Type 0
Below m None n = m ≤ n
Below m (Some k) n = (k ≡ n) × (n < m)
