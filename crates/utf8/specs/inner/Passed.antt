-- Passing characters: what the contracts of the functions `past_..` cite. Inner: what `check` promises does not speak of it, and its loop keeps that all
-- before was passed. Assumes nothing.
use Rattle.std.specs.Prelude.{ℕ, ◌≤◌, drop, length, List, ◌≡◌}
use Rattle.utf8.specs.Rfc3629.{octets}

-- from one place to another, where the verdict goes on as it would have gone on from the first
pub record Passed (s : List ℕ) (at to : ℕ) : Type 0 where
  pub onward : at ≤ to
  pub within : to ≤ length s
  pub goes : octets 0 at (drop at s) ≡ octets 0 to (drop to s)
