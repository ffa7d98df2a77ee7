-- Date (01 Reading, 'Rules'), and a day alone (02 §4): what the contracts of `src/dates.rt` cite. Assumes nothing.
use Rattle.std.specs.Prelude.{◌%◌, ℕ, Bool, ◌&&◌, ◌||◌, not, cond, List, ◌∷◌, [], ◌++◌, eqb, get_or}
use Rattle.octets.specs.Ascii.{ascii}
use Rattle.rules.specs.Pieces.{Piece, fixed, number, reads, decimal_at}

-- a leap year of the Gregorian calendar
unfoldable pub leap : ℕ → Bool
leap y = eqb (y % 4) 0 && (not (eqb (y % 100) 0) || eqb (y % 400) 0)

-- the days of the months of a year that is no leap year, from January at 1
abbrev pub days : List ℕ
days = 0 ∷ 31 ∷ 28 ∷ 31 ∷ 30 ∷ 31 ∷ 30 ∷ 31 ∷ 31 ∷ 30 ∷ 31 ∷ 30 ∷ 31 ∷ []

-- the days of month m of year y; 0 where there is no such month
unfoldable pub days_in : ℕ → ℕ → ℕ
days_in y m = cond (eqb m 2) (cond (leap y) 29 28) (get_or days m 0)

-- `+ZZZZ`: zone hour 00 to 14, minute 00 to 59
abbrev pub zone : List Piece
zone = fixed (ascii "+") ∷ number 2 0 14 ∷ number 2 0 59 ∷ []

-- `Thh:mm:ss`, 00:00:00 to 23:59:59, and then the zone
abbrev pub time : List Piece
time =
    fixed (ascii "T")
    ∷ number 2 0 23
    ∷ fixed (ascii ":")
    ∷ number 2 0 59
    ∷ fixed (ascii ":")
    ∷ number 2 0 59
    ∷ zone

-- `YYYY-MM-DD`, year 0001 to 9999, in a month of so many days
abbrev pub day : ℕ → List Piece
day last =
    number 4 1 9999
    ∷ fixed (ascii "-")
    ∷ number 2 1 12
    ∷ fixed (ascii "-")
    ∷ number 2 1 last
    ∷ []

-- a day, and then the time
abbrev pub date : ℕ → List Piece
date last = day last ++ time

-- how many days the month at byte 5 has, in the year at byte 0
abbrev pub last_day : List ℕ → ℕ
last_day s = days_in (decimal_at 4 s 0) (decimal_at 2 s 5)

-- a real Gregorian day: the month's days are those of the year and the month that stand before it
unfoldable pub day_rule : List ℕ → Bool
day_rule s = reads (day (last_day s)) s 0

-- a real Gregorian day, and then the time
unfoldable pub date_rule : List ℕ → Bool
date_rule s = reads (date (last_day s)) s 0
