-- The tables of required and optional fields of `src/fields.rt`, each held to its definition by one test. Assumes nothing.
use Prim.Native.Nat.{◌%◌, ◌*◌, ◌+◌, ◌/◌, ◌<◌, ◌^◌, ℕ}
use mathlib.Core.Bool.{Bool}
use mathlib.Core.List.{List, ◌∷◌, []}
use mathlib.Core.Path.{◌≡◌}
use lib.Dec.{eqb, eqb→eq}
use lib.ListN.{get_or}
use Rattle.rules.proofs.Table.{at, every}
use Rattle.rules.specs.Asks.{is_in, method_asks, tag_asks}

abbrev tags : List ℕ
tags = 0 ∷ 126 ∷ 254 ∷ 33554512 ∷ 67109072 ∷ []

abbrev methods : List ℕ
methods = 0 ∷ 16760832 ∷ 0 ∷ 0 ∷ 0 ∷ 1792 ∷ 0 ∷ 6144 ∷ 1536 ∷ []

abbrev options : List ℕ
options = 0 ∷ 12288 ∷ 0 ∷ 0 ∷ 0 ∷ 16777216 ∷ 0 ∷ 8192 ∷ 0 ∷ []

-- bit n of number r of a table
abbrev bit : List ℕ → ℕ → ℕ → ℕ
bit table r n = get_or table r 0 / 2 ^ n % 2

tag_right : ℕ → ℕ → Bool
tag_right r n = eqb (bit tags r n) (tag_asks r n)

tag_row : ℕ → Bool
tag_row r = every (tag_right r) 0 27

pub tag-entry : (r n : ℕ) → r < 5 → n < 27 → bit tags r n ≡ tag_asks r n
unfolding tag_right tag_row tag_asks is_in
tag-entry r n h k = eqb→eq _ _ (at (tag_right r) 27 (at tag_row 5 tt r h) n k)

method_right : ℕ → ℕ → Bool
method_right r n = eqb (bit methods r n + bit options r n * 2) (method_asks r n)

method_row : ℕ → Bool
method_row r = every (method_right r) 0 27

pub method-entry : (r n : ℕ) → r < 9 → n < 27 → bit methods r n + bit options r n * 2 ≡ method_asks r n
unfolding method_right method_row method_asks is_in
method-entry r n h k = eqb→eq _ _ (at (method_right r) 27 (at method_row 9 tt r h) n k)
