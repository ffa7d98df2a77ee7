-- How many records are free. Inner: no contract cites it; `free-count` in proofs/LookupLaws.antt says what a store makes of it. Assumes nothing.
use Rattle.std.specs.Prelude.{ℕ, zero, suc, ◌+◌, Bool, true, false, List}
use Rattle.table.specs.Image.{record_count, record_at}
use Rattle.table.specs.Record.{is_free}

abbrev pub bit : Bool → ℕ
bit true = 1
bit false = 0

-- how many numbers below n pass a test
unfoldable pub tally : (ℕ → Bool) → ℕ → ℕ
tally p zero = 0
tally p (suc n) = bit (p n) + tally p n

-- how many records are free
unfoldable pub free_count : List ℕ → ℕ
free_count t = tally (λ k. is_free (record_at t k)) (record_count t)
