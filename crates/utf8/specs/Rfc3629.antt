-- RFC 3629, section 4: which octets are UTF-8 (01 Reading, row 3). The contracts of `src/` cite it. Assumes nothing.
use Rattle.std.specs.Prelude.{ℕ, zero, suc, Bool, true, false, ◌&&◌, cond, List, [], ◌∷◌, length, Result, Ok, Err}
use Rattle.octets.specs.Class.{among}

-- an ABNF range such as %xA0-BF
pub record Bounds : Type 0 where
  pub low : ℕ
  pub high : ℕ

infix 30 ◌to◌
abbrev pub ◌to◌ : ℕ → ℕ → Bounds
lo to hi = record { low = lo; high = hi }

-- UTF8-tail = %x80-BF
abbrev pub tail : Bounds
tail = 0x80 to 0xBF

-- the RFC's syntax: a UTF8-char is one octet of each range of a row
abbrev pub syntax : List (List Bounds)
syntax =
    -- UTF8-1
    ((0x00 to 0x7F) ∷ [])
    -- UTF8-2
    ∷ ((0xC2 to 0xDF) ∷ tail ∷ [])
    -- UTF8-3
    ∷ ((0xE0 to 0xE0) ∷ (0xA0 to 0xBF) ∷ tail ∷ [])
    ∷ ((0xE1 to 0xEC) ∷ tail ∷ tail ∷ [])
    ∷ ((0xED to 0xED) ∷ (0x80 to 0x9F) ∷ tail ∷ [])
    ∷ ((0xEE to 0xEF) ∷ tail ∷ tail ∷ [])
    -- UTF8-4
    ∷ ((0xF0 to 0xF0) ∷ (0x90 to 0xBF) ∷ tail ∷ tail ∷ [])
    ∷ ((0xF1 to 0xF3) ∷ tail ∷ tail ∷ tail ∷ [])
    ∷ ((0xF4 to 0xF4) ∷ (0x80 to 0x8F) ∷ tail ∷ tail ∷ [])
    ∷ []

-- what a first octet begins: a UTF8-char that goes on with octets of these ranges, or none
pub data Begins : Type 0 where
  char : List Bounds → Begins
  none : Begins

-- the first row that an octet can begin (no octet begins two)
abbrev pub row_of : List (List Bounds) → ℕ → Begins
row_of [] b = none
row_of ([] ∷ rows) b = row_of rows b
row_of ((r ∷ rs) ∷ rows) b = cond (among r.low r.high b) (char rs) (row_of rows b)

unfoldable pub begins : ℕ → Begins
begins b = row_of syntax b

-- whether the octets go on with one octet of each range
unfoldable pub goes_on : List Bounds → List ℕ → Bool
goes_on [] s = true
goes_on (r ∷ rs) [] = false
goes_on (r ∷ rs) (b ∷ s) = among r.low r.high b && goes_on rs s

abbrev pub counted : Bool → ℕ → ℕ
counted true n = n
counted false n = 0

abbrev pub char_of : Begins → List ℕ → ℕ
char_of (char rs) s = counted (goes_on rs s) (suc (length rs))
char_of none s = 0

-- how many octets the UTF8-char at the front takes; 0 where none stands there
unfoldable pub char_at : List ℕ → ℕ
char_at [] = 0
char_at (b ∷ s) = char_of (begins b) s

-- good, or the first octet of the first bad sequence
abbrev pub Verdict : Type 0
Verdict = Result (Unit {0}) ℕ

-- a char of so many octets begins at octet i, and rest answers for the octets behind its first; or none does, and a bad sequence begins there
abbrev pub opened : ℕ → ℕ → (ℕ → Verdict) → Verdict
opened zero i rest = Err i
opened (suc k) i rest = rest k

-- UTF8-octets = *( UTF8-char ): the octets begin at octet i, and the first k of them belong to a char already begun. A char is begun only
-- where it stands whole, so none is open at the end
unfoldable pub octets : ℕ → ℕ → List ℕ → Verdict
octets k i [] = Ok tt
octets (suc k) i (b ∷ s) = octets k (suc i) s
octets zero i (b ∷ s) = opened (char_at (b ∷ s)) i (λ k. octets k (suc i) s)

-- good, or the first octet of the first bad sequence
abbrev pub verdict : List ℕ → Verdict
verdict s = octets 0 0 s
