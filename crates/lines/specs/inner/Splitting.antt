-- Inner: what one call of the splitter gives, and what it keeps in a lent buffer. Cited by the contracts of `src/splitting.rt`. Tied to `Input` by
-- `given` in `proofs/Cutting.antt`: the calls on a piece give its lines, cut to the buffer's room, and keep the open one. Assumes nothing.
use Rattle.std.specs.Prelude.{ℕ, ◌+◌, ◌-◌, eqb, ltb, length, take, drop, cond, List, [], ◌∷◌, ◌++◌, ◌≡◌}
use Rattle.lines.specs.declared.splitting.Next.TheVariants.{Here, Buffered, Pending}
use Rattle.lines.specs.declared.splitting.Next.{Next}
use Rattle.octets.specs.Splice.{written}
use Rattle.octets.specs.Text.{before}

-- what a lent buffer keeps of a line: as many of its first bytes as it has room for
abbrev pub first_bytes : List ℕ → List ℕ → List ℕ
first_bytes o l = take (length o) l

-- where the line ends that goes on at this place of the piece: at the next line feed, or behind the piece
abbrev pub line_end : List ℕ → ℕ → ℕ
line_end s from = from + before 10 (drop from s)

-- what stands in the piece from this place on, up to the line's end
abbrev pub rest_of_line : List ℕ → ℕ → List ℕ
rest_of_line s from = take (before 10 (drop from s)) (drop from s)

-- the line so far: the first len bytes of the buffer o, and the part
abbrev pub joined : List ℕ → ℕ → List ℕ → ℕ → List ℕ
joined o len s from = first_bytes o (take len o ++ rest_of_line s from)

-- a line that lies whole in the piece is shown where it lies; one that goes on from the buffer, or beyond the piece, is kept there
unfoldable pub next_line : List ℕ → ℕ → List ℕ → ℕ → Next
next_line o len s from =
    cond (ltb (line_end s from) (length s))
    (cond (eqb len 0) (Here (line_end s from)) (Buffered (length (joined o len s from)) (line_end s from + 1)))
    (Pending (length (joined o len s from)))

-- the buffer after it
unfoldable pub buffer_after : List ℕ → ℕ → List ℕ → ℕ → List ℕ
buffer_after o len s from =
    cond (ltb (line_end s from) (length s))
    (cond (eqb len 0) o (written o (joined o len s from)))
    (written o (joined o len s from))

-- what the splitter gives of a piece s from a place on, call by call: from a buffer and how much of it is kept, the lines, each as it is
-- shown and cut to the buffer's room, and the buffer and how much of it is kept at the end
pub data Splits (s : List ℕ) : List ℕ → ℕ → ℕ → List (List ℕ) → List ℕ → ℕ → Type 0 where
  pending : {o : List ℕ} {len from n : ℕ} → next_line o len s from ≡ Pending n → Splits s o len from [] (buffer_after o len s from) n
  here : {o : List ℕ} {len from e : ℕ} {ls : List (List ℕ)} {o' : List ℕ} {n : ℕ} → next_line o len s from ≡ Here e → Splits s (buffer_after o len s from) 0 (e + 1) ls o' n
      → Splits s o len from (first_bytes o (take (e - from) (drop from s)) ∷ ls) o' n
  buffered : {o : List ℕ} {len from m e : ℕ} {ls : List (List ℕ)} {o' : List ℕ} {n : ℕ} → next_line o len s from ≡ Buffered m e → Splits s (buffer_after o len s from) 0 e ls o' n
      → Splits s o len from (take m (buffer_after o len s from) ∷ ls) o' n
