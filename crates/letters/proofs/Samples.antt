-- The reach computed, at the edges of the rules. Assumes nothing.
use Prim.Native.Nat.{ℕ}
use Rattle.letters.specs.inner.Reach.{address_reach, call_id_reach, common, count_reach, date_reach, day_reach, end_reach, fixed_reach, follows, low, meets, month_reach}
use Rattle.letters.specs.inner.Reach.{number_reach, reach_of, run_reach, sequence_reach, top, words_reach}
use Rattle.octets.specs.Ascii.{ascii}
use Rattle.octets.specs.Class.{among, is_alnum, is_digit, is_letter, is_lower, is_upper}
use Rattle.rules.specs.Classes.{holds}
use Rattle.rules.specs.Date.{days_in, leap}
use mathlib.Core.List.{List, [], ◌∷◌}
use mathlib.Core.Path.{◌≡◌, refl}

-- what a reach is at each of some texts
abbrev each : (List ℕ → ℕ) → List (List ℕ) → List ℕ
each f [] = []
each f (t ∷ ts) = f t ∷ each f ts

-- the value's limit at its last digit; no leading zero; the first letter of no method, of two, past one
sequences : each sequence_reach (ascii "4294967296 BYE" ∷ ascii "42949672950 BYE" ∷ ascii "0 BYE" ∷ ascii "01" ∷ ascii "7 CALX" ∷ ascii "7 BYES" ∷ ascii "7" ∷ ascii "x" ∷ [])
    ≡ 9 ∷ 10 ∷ 0 ∷ 0 ∷ 5 ∷ 5 ∷ 1 ∷ 0 ∷ []
unfolding sequence_reach reach_of count_reach fixed_reach words_reach common is_digit among
sequences = refl

-- days by month and year; no year 0; a text that stops short
dates : each date_reach (ascii "2023-02-29T" ∷ ascii "2024-02-29T" ∷ ascii "2023-02-3" ∷ ascii "0000" ∷ ascii "2023-13" ∷ ascii "2023-04-31" ∷ ascii "1900-02-29" ∷ [])
    ≡ 9 ∷ 11 ∷ 8 ∷ 3 ∷ 6 ∷ 9 ∷ 9 ∷ []
unfolding date_reach month_reach day_reach reach_of number_reach fixed_reach end_reach meets low top is_digit among days_in leap
dates = refl

times : each date_reach (ascii "2023-01-01T24" ∷ ascii "2023-01-01T23:59:60" ∷ ascii "2023-01-01T00:00:00+15" ∷ ascii "2023-01-01T00:00:00+1459x" ∷ [])
    ≡ 12 ∷ 17 ∷ 21 ∷ 24 ∷ []
unfolding date_reach month_reach day_reach reach_of number_reach fixed_reach end_reach meets low top is_digit among days_in leap
times = refl

-- either side is still open; the sixteenth letter of a user; a Fire-ID's fifteenth letter, and its first
addresses : each address_reach
    (ascii "net119:fire@x" ∷ ascii "net119:fire@xy.callee" ∷ ascii "net119:fires@xy.callee" ∷ ascii "net119:abcdefghijklmnop" ∷ ascii "net119:u@abcdefghijklmn_" ∷ ascii
    "net119:u@_" ∷ ascii "net119:u@a." ∷ [])
    ≡ 13 ∷ 21 ∷ 21 ∷ 22 ∷ 23 ∷ 9 ∷ 10 ∷ []
unfolding address_reach reach_of run_reach fixed_reach end_reach follows holds is_alnum is_letter is_lower is_upper is_digit among
addresses = refl

-- a mark as the 64th letter, and a 65th letter
call_ids : each call_id_reach
    (ascii "-a" ∷ ascii "a" ∷ ascii "a b" ∷ ascii "aaaaaaaaaaaaaaaaaaaaaaaaaaaaaaaaaaaaaaaaaaaaaaaaaaaaaaaaaaaaaaa-" ∷ ascii
    "aaaaaaaaaaaaaaaaaaaaaaaaaaaaaaaaaaaaaaaaaaaaaaaaaaaaaaaaaaaaaaa."
    ∷ ascii "aaaaaaaaaaaaaaaaaaaaaaaaaaaaaaaaaaaaaaaaaaaaaaaaaaaaaaaaaaaaaaaaa" ∷ [])
    ≡ 0 ∷ 1 ∷ 1 ∷ 63 ∷ 63 ∷ 64 ∷ []
unfolding call_id_reach reach_of run_reach end_reach follows holds is_alnum is_letter is_lower is_upper is_digit among
call_ids = refl
