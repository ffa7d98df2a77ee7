-- Status (01 Reading, 'Rules') and the status texts (01 Writing): what the contracts of `src/statuses.rt` cite. Assumes nothing.
use Rattle.std.specs.Prelude.{suc, zero, ℕ, Bool, cond, List, ◌∷◌, [], eqb, ltb, get_or, Option, Some, None}
use Rattle.octets.specs.Ascii.{ascii}
use Rattle.rules.specs.Pieces.{fixed, free, number, reads, decimal_at}

-- three digits 100 to 699, a space, any text
unfoldable pub status_rule : List ℕ → Bool
status_rule s = reads (number 3 100 699 ∷ fixed (ascii " ") ∷ free ∷ []) s 0

-- the code of a Status that keeps its rule
unfoldable pub status_of : List ℕ → Option ℕ
status_of s = cond (status_rule s) (Some (decimal_at 3 s 0)) None

-- the listed codes
abbrev pub codes : List ℕ
codes = 100 ∷ 180 ∷ 200 ∷ 202 ∷ 400 ∷ 404 ∷ 405 ∷ 481 ∷ 486 ∷ 487 ∷ 488 ∷ 500 ∷ 501 ∷ 503 ∷ []

-- each code with its phrase, in the same order
abbrev pub texts : List (List ℕ)
texts =
    ascii "100 Trying"
    ∷ ascii "180 Ringing"
    ∷ ascii "200 OK"
    ∷ ascii "202 Accepted"
    ∷ ascii "400 Bad Request"
    ∷ ascii "404 Not Found"
    ∷ ascii "405 Method Not Allowed"
    ∷ ascii "481 Call/Transaction Does Not Exist"
    ∷ ascii "486 Busy Here"
    ∷ ascii "487 Request Terminated"
    ∷ ascii "488 Not Acceptable Here"
    ∷ ascii "500 Server Internal Error"
    ∷ ascii "501 Not Implemented"
    ∷ ascii "503 Service Unavailable"
    ∷ []

-- the place of a code in a list, counted from 0; the list's length where it is not there
unfoldable pub index_in : List ℕ → ℕ → ℕ
index_in [] x = zero
index_in (y ∷ ys) x = cond (eqb y x) zero (suc (index_in ys x))

-- whether a code is listed
unfoldable pub listed : ℕ → Bool
listed code = ltb (index_in codes code) 14

-- a code with its phrase; nothing where it is not listed
unfoldable pub status_text : ℕ → List ℕ
status_text code = get_or texts (index_in codes code) []
