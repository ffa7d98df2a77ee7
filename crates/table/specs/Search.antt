-- Where a call's record is, and the lowest free one. Cited by the contracts of `src/searching.rt`. Assumes nothing.
use Rattle.std.specs.Prelude.{ℕ, zero, suc, Bool, true, false, ◌&&◌, List, Option, Some, None}
use Rattle.table.specs.Image.{record_count, record_at}
use Rattle.table.specs.Record.{is_free, is_named}

abbrev pub found_if : Bool → ℕ → Option ℕ
found_if true k = Some k
found_if false k = None

abbrev pub or_else : Option ℕ → Option ℕ → Option ℕ
or_else (Some k) f = Some k
or_else None f = f

-- the lowest number below n that passes a test
unfoldable pub lowest_found : (ℕ → Bool) → ℕ → Option ℕ
lowest_found p zero = None
lowest_found p (suc n) = or_else (lowest_found p n) (found_if (p n) n)

-- every number below n passes a test
unfoldable pub every : (ℕ → Bool) → ℕ → Bool
every p zero = true
every p (suc n) = every p n && p n

-- the place of a call's record
unfoldable pub place_named : List ℕ → List ℕ → Option ℕ
place_named id t = lowest_found (λ k. is_named id (record_at t k)) (record_count t)

-- the lowest free record's place
unfoldable pub free_place : List ℕ → Option ℕ
free_place t = lowest_found (λ k. is_free (record_at t k)) (record_count t)
