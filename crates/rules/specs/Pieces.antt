-- What a rule is made of: pieces of text, read from left to right, each from the place where the one before it ended.
-- The rules of `specs/` are lists of these pieces, as data, so that more can be asked of a text than whether it keeps its rule.
-- What the contracts of `src/pieces.rt` cite. Assumes nothing.
use Prim.Native.Char.{code}
use Rattle.std.specs.Prelude.{◌*◌, ◌+◌, ◌-◌, suc, zero, ℕ, Bool, ◌&&◌, cond, not, true, List, ◌∷◌, [], eqb, ltb, drop, get_or, length}
use Rattle.octets.specs.Class.{among, is_digit}
use Rattle.octets.specs.Text.{same, stands_at}
use Rattle.rules.specs.Classes.{holds}
use Rattle.rules.specs.declared.classes.Class.{Class}
use Rattle.rules.specs.declared.classes.Class.TheVariants.{Digit}

-- how many bytes of a class a text begins with
unfoldable pub run_length : Class → List ℕ → ℕ
run_length c [] = 0
run_length c (x ∷ xs) = cond (holds c x) (suc (run_length c xs)) 0

-- whether n digits stand from a place on
unfoldable pub digits : ℕ → List ℕ → ℕ → Bool
digits zero s at = true
digits (suc n) s at = digits n s at && is_digit (get_or s (at + n) 0)

-- the number that n digits from a place on are
unfoldable pub decimal_at : ℕ → List ℕ → ℕ → ℕ
decimal_at zero s at = 0
decimal_at (suc n) s at = decimal_at n s at * 10 + (get_or s (at + n) 0 - code "0")

-- the place of a text in a list of words, counted from k; 0 where it is none of them
unfoldable pub word_number_from : List (List ℕ) → ℕ → List ℕ → ℕ
word_number_from [] k x = 0
word_number_from (w ∷ ws) k x = cond (same x w) k (word_number_from ws (k + 1) x)

-- the number of a text in a list of words, the first of them 1; 0 where it is none of them
abbrev pub word_number : List (List ℕ) → List ℕ → ℕ
word_number ws x = word_number_from ws 1 x

-- a piece of text is
--   fixed w: the bytes w;
--   run lo hi c e: as many bytes of class c as there are, lo to hi of them, the first and the last of class e;
--   number n lo hi: n digits that are a number from lo to hi;
--   count hi: as many digits as there are, a number from 1 to hi, no leading zero;
--   word ws: the rest, one of the words ws;
--   free: the rest, whatever it is
pub data Piece : Type 0 where
  fixed : List ℕ → Piece
  run : ℕ → ℕ → Class → Class → Piece
  number : ℕ → ℕ → ℕ → Piece
  count : ℕ → Piece
  word : List (List ℕ) → Piece
  free : Piece

-- where a piece that begins at a place ends
unfoldable pub piece_end : Piece → List ℕ → ℕ → ℕ
piece_end (fixed w) s at = at + length w
piece_end (run lo hi c e) s at = at + run_length c (drop at s)
piece_end (number n lo hi) s at = at + n
piece_end (count hi) s at = at + run_length Digit (drop at s)
piece_end (word ws) s at = length s
piece_end free s at = length s

-- lo to hi bytes from a place to an end, the first and the last of class e
unfoldable pub within : ℕ → ℕ → Class → List ℕ → ℕ → ℕ → Bool
within lo hi e s at end = among lo hi (end - at) && (holds e (get_or s at 0) && holds e (get_or s (end - 1) 0))

-- whether a text has a piece at a place
unfoldable pub has_piece : Piece → List ℕ → ℕ → Bool
has_piece (fixed w) s at = stands_at s at w
has_piece (run lo hi c e) s at = within lo hi e s at (at + run_length c (drop at s))
has_piece (number n lo hi) s at = digits n s at && among lo hi (decimal_at n s at)
has_piece (count hi) s at = not (eqb (get_or s at 0) (code "0")) && among 1 hi (decimal_at (run_length Digit (drop at s)) s at)
has_piece (word ws) s at = ltb 0 (word_number ws (drop at s))
has_piece free s at = true

-- whether a text is, from a place to its end, these pieces one after the other
unfoldable pub reads : List Piece → List ℕ → ℕ → Bool
reads [] s at = eqb at (length s)
reads (p ∷ ps) s at = has_piece p s at && reads ps s (piece_end p s at)
