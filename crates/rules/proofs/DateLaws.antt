-- The table of days of months of `src/dates.rt`: no entry is over 31, by one test over it. Assumes nothing.
use Prim.Native.Nat.{◌<◌, ◌≤◌, ℕ}
use mathlib.Core.Bool.{Bool}
use lib.Dec.{leb, leb→le}
use lib.ListN.{get_or}
use Rattle.rules.proofs.Table.{at}
use Rattle.rules.specs.Date.{days}

right : ℕ → Bool
right m = leb (get_or days m 0) 31

pub days-small : (m : ℕ) → m < 13 → get_or days m 0 ≤ 31
unfolding right
days-small m h = leb→le _ _ (at right 13 tt m h)
